-- What the parts of an HTML page are made of.
use Rattle.std.proofs.Common.{◌≡◌, ℕ, ◌==◌, ◌≤◌, true, false, List, [], ◌∷◌, length, Option, Some, None, refl}
use Rattle.std.specs.Prelude.{◌&&◌, nat_le}
use Rattle.std.specs.Option.{option_map}
use Rattle.std.proofs.lemmas.Bool.{and_parts, leb-true}
use Rattle.bridge_auction.specs.Auction.{AuctionValue}
use Rattle.bridge_play.specs.Play.{PlayValue}
use Rattle.session_rules.specs.declared.action.PlayId.{PlayId}
use Rattle.session_rules.specs.Numbers.{IsRoundNumber, IsTableNumber, IsBoardIndex}
use Rattle.session_rules.specs.Record.{PlainRecord, bidding_of, play_of}
use Rattle.session_rules.specs.State.{SessionValue, hands_on}
use Rattle.bridge_results.specs.declared.play.TablePlay.{TablePlay}
use Rattle.bridge_results.specs.declared.traveller.BoardLine.{BoardLine}
use Rattle.bridge_results.specs.ShownPairs.{Names}
use Rattle.bridge_results.specs.Costs.{Analysis}
use Rattle.bridge_results.specs.HtmlBoard.{board_html}
use Rattle.bridge_results.specs.HtmlCourse.{is_id, course_html, found_html}
use Rattle.bridge_results.specs.HtmlPage.{played_html}

-- the text of a board with some line
pub some_html : (names : Names) (analysis : Analysis) (s : SessionValue) (board : ℕ) (lines : List BoardLine) → (length lines == 0) ≡ false
    → board_html names analysis s board lines ≡ played_html names analysis s board lines
some_html names analysis s board [] none = cc
some_html names analysis s board (line ∷ lines) some = refl

-- a number within its range
between_them : (most n : ℕ) → (nat_le 1 n && nat_le n most) ≡ true → (1 ≤ n) × (n ≤ most)
between_them most n is =
    let both = and_parts (nat_le 1 n) (nat_le n most) is in (leb-true 1 n both.0, leb-true n most both.1)

-- the numbers of a play
pub id_numbers : (id : PlayId) → is_id id ≡ true → IsRoundNumber id.round × IsTableNumber id.table × IsBoardIndex id.index
id_numbers id is =
    let first = and_parts (nat_le 1 id.round && nat_le id.round 12) ((nat_le 1 id.table && nat_le id.table 12) && (nat_le 1 id.index && nat_le id.index 3)) is in
    let second = and_parts (nat_le 1 id.table && nat_le id.table 12) (nat_le 1 id.index && nat_le id.index 3) first.1 in
    (between_them 12 id.round first.0, between_them 12 id.table second.0, between_them 3 id.index second.1)

-- of the record that was found the auction and the play are shown
pub found_some : (names : Names) (costs : List ℕ) (s : SessionValue) (play : TablePlay) (auction : AuctionValue) (played : Option PlayValue) (found : Option PlainRecord)
    → Some auction ≡ option_map bidding_of found → Some played ≡ option_map (λ (plain : PlainRecord). play_of (hands_on s.deals plain.board) plain) found
    → course_html names costs s.configuration.pairs play auction played ≡ found_html names costs s play found
found_some names costs s play auction played None called carded = absurd cc
found_some names costs s play auction played (Some plain) called carded =
    let auction_is : auction ≡ bidding_of plain = cc in
    let played_is : played ≡ play_of (hands_on s.deals plain.board) plain = cc in
    rw (auction_is, played_is) refl

-- where there is no record nothing is shown
pub found_none : (names : Names) (costs : List ℕ) (s : SessionValue) (play : TablePlay) (found : Option PlainRecord) → ◌≡◌ {A = Option AuctionValue} None (option_map bidding_of found) → [] ≡ found_html names costs s play found
found_none names costs s play None none = refl
found_none names costs s play (Some plain) none = absurd cc
