-- Each of a pair's plays that are told is over.
use Rattle.std.proofs.Common.{◌≡◌, ℕ, ◌<◌, Bool, true, false, ◌&&◌, ◌||◌, ◌⊎◌, inl, inr, cond, nat_lt, zero, suc, List, [], ◌∷◌, Option, Some, None, refl, sym, ap, ◌∙◌, arith}
use Rattle.std.specs.Prelude.{flat_map, option_and_then, Contains, All, IfSome}
use Rattle.std.specs.List.{cons_option}
use Rattle.std.specs.Option.{option_map, option_map_or}
use Rattle.std.proofs.lemmas.Bool.{ltb-true}
use Rattle.std.proofs.lemmas.List.Elements.{All-append, All-nil, All-cons}
use Rattle.bridge_cards.specs.declared.seat.Side.{Side}
use Rattle.bridge_movement.specs.declared.row.Row.{Row}
use Rattle.session_rules.specs.Outcome.{outcome_of}
use Rattle.session_rules.specs.Record.{PlainRecord, contract_in, course_by, course_of, is_done, is_finished, playing_in}
use Rattle.session_rules.specs.State.{SessionValue, hands_on, record_of}
use Rattle.bridge_results.specs.Plays.{has_outcome}
use Rattle.bridge_results.specs.ScoreCard.{side_at}
use Rattle.bridge_auction.specs.declared.contract.Contract.{Contract}
use Rattle.board_replies.specs.KnownPlay.{is_known_finished, known_in}
use Rattle.board_replies.specs.OwnPlays.{OwnPlay, is_over_in, own_play_by, own_play_at, own_plays_at, own_plays_in, own_plays}
use Rattle.board_replies.specs.Finished.{IsOver}

-- what is known of a play tells whether it is finished
course_known : (hands : List ℕ) (plain : PlainRecord) (contract : Option Contract) → is_done plain.calls (option_map course_of (option_map (playing_in hands plain) contract)) ≡ is_done plain.calls (option_map (course_by plain) contract)
course_known hands plain None = refl
course_known hands plain (Some contract) = refl

-- of both that are so each is
both : (a b : Bool) → (a && b) ≡ true → (a ≡ true) × (b ≡ true)
both true true is = (refl, refl)
both true false is = absurd cc
both false b is = absurd cc

-- one of two is so
either : (a : Bool) (x y : ℕ) → (a || nat_lt x y) ≡ true → (a ≡ true) ⊎ (x < y)
either true x y is = inl refl
either false x y is = inr (ltb-true x y is)

module _ (s : SessionValue) (pair : ℕ) (row : Row) (there : Contains s.configuration.movement.rows row) (side : Side) (sat : side_at pair row ≡ Some side) (index : ℕ) where
  -- of a record that was found
  by_outcome : (plain : PlainRecord) (over : Bool) → record_of s (record { round = row.round; table = row.table; index = index }) ≡ Some plain → is_over_in s.round row (known_in s.deals plain) ≡ over
      → IfSome (cond over (Some (record { row = row; side = side; index = index; known = known_in s.deals plain })) None) (IsOver s pair)
  by_outcome plain false found came = tt
  by_outcome plain true found came =
      let known = known_in s.deals plain in
      let parts = both (has_outcome (outcome_of plain)) (is_known_finished known || nat_lt row.round s.round) came in
      let finished : is_known_finished known ≡ is_finished plain = course_known (hands_on s.deals plain.board) plain (contract_in plain) in
      let ends = either (is_finished plain) row.round s.round (sym (ap (λ b. b || nat_lt row.round s.round) finished) ∙ parts.1) in
      record { row = there; sat = sat; plain = plain; found = found; known = refl; came = parts.0; over = ends }

  by_record : (found : Option PlainRecord) → record_of s (record { round = row.round; table = row.table; index = index }) ≡ found
      → IfSome (option_and_then (own_play_by s.round row side index) (option_map (known_in s.deals) found)) (IsOver s pair)
  by_record None is = tt
  by_record (Some plain) is = by_outcome plain (is_over_in s.round row (known_in s.deals plain)) is refl

  pub over_at : IfSome (own_play_at s row side index) (IsOver s pair)
  over_at = by_record (record_of s (record { round = row.round; table = row.table; index = index })) refl

-- one that may be there, before others
over_cons : (P : OwnPlay → Type 0) (play : Option OwnPlay) (plays : List OwnPlay) → IfSome play P → All P plays → All P (cons_option play plays)
over_cons P None plays one all = all
over_cons P (Some play) plays one all = All-cons P play plays one all

-- the plays of a row
over_in : (s : SessionValue) (pair : ℕ) (row : Row) (there : Contains s.configuration.movement.rows row) (side : Option Side) → side_at pair row ≡ side → All (IsOver s pair) (option_map_or (own_plays_at s row) side [])
over_in s pair row there None sat = All-nil (IsOver s pair)
over_in s pair row there (Some side) sat =
    let f = own_play_at s row side in
    over_cons (IsOver s pair) (f 1) (cons_option (f 2) (cons_option (f 3) [])) (over_at s pair row there side sat 1)
    (over_cons (IsOver s pair) (f 2) (cons_option (f 3) []) (over_at s pair row there side sat 2)
    (over_cons (IsOver s pair) (f 3) [] (over_at s pair row there side sat 3) (All-nil (IsOver s pair))))

-- those of some of the rows
over_rows : (s : SessionValue) (pair : ℕ) (rows : List Row) → ((row : Row) → Contains rows row → Contains s.configuration.movement.rows row) → All (IsOver s pair) (flat_map (own_plays_in s pair) rows)
over_rows s pair [] there = All-nil (IsOver s pair)
over_rows s pair (row ∷ rows) there =
    All-append (IsOver s pair) (own_plays_in s pair row) (flat_map (own_plays_in s pair) rows)
    (over_in s pair row (there row (zero, omega arith, refl)) (side_at pair row) refl)
    (over_rows s pair rows (λ other (k, within, at). there other (suc k, omega (arith, within), at)))

pub all_over : (s : SessionValue) (pair : ℕ) → All (IsOver s pair) (own_plays s pair)
unfolding own_plays
all_over s pair = over_rows s pair s.configuration.movement.rows (λ row there. there)
