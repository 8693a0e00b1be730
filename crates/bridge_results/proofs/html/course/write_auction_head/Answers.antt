use Rattle.std.proofs.Common.{◌≡◌, List, ℕ, [], ◌∷◌, ◌++◌, refl, ◌∙◌}
use Rattle.page_layout.specs.declared.format.Format.TheVariants.{Html}
use Rattle.page_layout.specs.Table.{title_row}
use Rattle.bridge_results.specs.HtmlCourse.{auction_head}
use Rattle.bridge_results.specs.declared.html.columns.TheConstants.{CALL_COLUMNS}
use Rattle.bridge_results.proofs.html.course.write_auction_head.Goals as goal

-- four titles that are what others are
four_titles : (text a b c d e f g h : List ℕ) → a ≡ e → b ≡ f → c ≡ g → d ≡ h → text ++ title_row Html CALL_COLUMNS (a ∷ b ∷ c ∷ d ∷ []) ≡ text ++ title_row Html CALL_COLUMNS (e ∷ f ∷ g ∷ h ∷ [])
four_titles text a b c d e f g h first second third fourth = rw (first, second, third, fourth) refl

pub returns : goal.returns
unfolding auction_head
returns g c =
    let titles =
    c.push_titles.ensures.text
    ∙ four_titles c.push_bytes-3.new.text.items _ _ _ _ _ _ _ _ (c.as_bytes.ensures.value ∙ c.letter_from.ensures.text)
    (c.as_bytes-2.ensures.value ∙ c.letter_from-2.ensures.text) (c.as_bytes-3.ensures.value ∙ c.letter_from-3.ensures.text)
    (c.as_bytes-4.ensures.value ∙ c.letter_from-4.ensures.text) in
    rw (
      c.as_slice.ensures.value,
      titles,
      c.push_bytes-3.ensures.text,
      c.push_bytes-2.ensures.text,
      c.as_bytes-5.ensures.value,
      c.as_str.ensures.value,
      c.play_target-target.ensures.text,
      c.push_bytes.ensures.text,
      c.new-text.ensures,
    ) at c.write_text.ensures
