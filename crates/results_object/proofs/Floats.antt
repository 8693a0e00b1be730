-- No value of the object is a float.
use Rattle.std.proofs.Common.{◌≡◌, ℕ, ℤ, pos, negsuc, Bool, true, false, List, [], ◌∷◌, map, Option, Some, None, refl}
use Rattle.std.specs.Prelude.{◌||◌, unsigned_abs}
use Rattle.std.specs.Fmt.{signed_decimal}
use Rattle.std.specs.List.{range_with_len}
use Rattle.line_text.specs.Decimals.{tenths_text}
use Rattle.bridge_cards.specs.Board.{vulnerability_on}
use Rattle.bridge_cards.specs.Card.{card_text}
use Rattle.bridge_cards.specs.Vulnerability.{vulnerability_text}
use Rattle.bridge_auction.specs.Auction.{AuctionValue}
use Rattle.bridge_cards.specs.declared.scoring.Scoring.{Scoring}
use Rattle.bridge_cards.specs.declared.scoring.Scoring.TheVariants.{MatchPoints, Imps}
use Rattle.bridge_config.specs.ConfigValue.{ConfigValue, Pair, player_name}
use Rattle.bridge_play.specs.Play.{PlayValue}
use Rattle.bridge_score.specs.declared.ranking.Ranked.{Ranked}
use Rattle.bridge_score.specs.Percent.{share_percent}
use Rattle.session_rules.specs.declared.outcome.Outcome.{Outcome}
use Rattle.session_rules.specs.declared.outcome.Outcome.TheVariants.{Unfinished, PassedOut, Played, Voided, Adjusted, Assigned}
use Rattle.session_rules.specs.Record.{PlainRecord, bidding_of, play_of}
use Rattle.session_rules.specs.State.{SessionValue, deal_on, hands_on}
use Rattle.bridge_results.specs.HtmlBoard.{available_on}
use Rattle.bridge_results.specs.HtmlCourse.{shown_record}
use Rattle.bridge_results.specs.PlayCells.{contract_cell, declarer_cell, lead_cell, gain_cell, line_score}
use Rattle.bridge_results.specs.Traveller.{traveller}
use Rattle.bridge_results.specs.declared.play.TablePlay.{TablePlay}
use Rattle.bridge_results.specs.declared.traveller.BoardLine.{BoardLine}
use Rattle.serde_json.specs.Data.{Data}
use Rattle.serde_json.specs.View.{items_of}
use Rattle.serde_json.specs.Written.{has_float, items_have_float}
use Rattle.results_object.specs.Values.{text_data, number_data, percent_data, list_data}
use Rattle.results_object.specs.Plays.{gain_of, share_of, tricks_data, averages_data, result_data, gain_data, call_data, card_data, cards_of, course_data, found_data, play_data}
use Rattle.results_object.specs.Object.{scoring_text, deal_data, board_data, total_data, names_data, ranked_data, field_data, event_data, results_data}

-- the value is none
abbrev pub IsPlain : Data → Type 0
IsPlain d = has_float d ≡ false

-- neither of two is
pub both : (a b : Bool) → a ≡ false → b ≡ false → (a || b) ≡ false
both a b first second = rw (first, second) refl

-- nor one of a list
items_plain : {X : Type 0} (f : X → Data) → ((x : X) → IsPlain (f x)) → (xs : List X) → items_have_float (items_of (map f xs)) ≡ false
items_plain f each [] = refl
items_plain f each (x ∷ xs) = both _ _ (each x) (items_plain f each xs)

pub list_plain : {X : Type 0} (f : X → Data) → ((x : X) → IsPlain (f x)) → (xs : List X) → IsPlain (list_data f xs)
list_plain f each xs = items_plain f each xs

pub text_plain : (text : List ℕ) → IsPlain (text_data text)
text_plain [] = refl
text_plain (byte ∷ bytes) = refl

pub number_plain : (value : Option ℤ) → IsPlain (number_data value)
number_plain None = refl
number_plain (Some (pos n)) = refl
number_plain (Some (negsuc n)) = refl

tricks_plain : (outcome : Outcome) → IsPlain (tricks_data outcome)
tricks_plain Unfinished = refl
tricks_plain PassedOut = refl
tricks_plain (Played contract tricks) = refl
tricks_plain Voided = refl
tricks_plain (Adjusted ns ew) = refl
tricks_plain (Assigned contract tricks) = refl

pub averages_plain : (outcome : Outcome) → IsPlain (averages_data outcome)
averages_plain Unfinished = refl
averages_plain PassedOut = refl
averages_plain (Played contract tricks) = refl
averages_plain Voided = refl
averages_plain (Adjusted ns ew) = refl
averages_plain (Assigned contract tricks) = refl

pub result_plain : (play : TablePlay) → IsPlain (result_data play)
result_plain play =
    both _ _ (text_plain (contract_cell play.outcome)) (both _ _ (text_plain (declarer_cell play.outcome))
    (both _ _ (text_plain (lead_cell play.lead)) (both _ _ (tricks_plain play.outcome) refl)))

percent_plain : (hundredths : Option ℕ) → IsPlain (percent_data hundredths)
percent_plain None = refl
percent_plain (Some found) = refl

pub gain_plain : (scoring : Scoring) (available : ℕ) (gain : Option ℤ) → IsPlain (gain_data scoring available gain)
gain_plain scoring available gain = both _ _ (percent_plain (share_of scoring available gain)) (both _ _ (text_plain (gain_cell scoring gain)) refl)

course_plain : (auction : AuctionValue) (played : Option PlayValue) → IsPlain (course_data auction played)
course_plain auction played =
    both _ _ (list_plain call_data (λ _. refl) auction.calls) (both _ _ (list_plain card_data (λ card. text_plain (card_text card)) (cards_of played)) refl)

found_plain : (s : SessionValue) (found : Option PlainRecord) → IsPlain (found_data s found)
found_plain s None = refl
found_plain s (Some plain) = course_plain (bidding_of plain) (play_of (hands_on s.deals plain.board) plain)

play_plain : (s : SessionValue) (available : ℕ) (line : BoardLine) → IsPlain (play_data s available line)
play_plain s available line =
    let gain : (ns : Bool) → IsPlain (gain_data s.configuration.scoring available (gain_of ns line.comparison)) = λ ns. gain_plain s.configuration.scoring available (gain_of ns line.comparison) in
    both _ _ (averages_plain line.play.outcome) (both _ _ (found_plain s (shown_record s line.play)) (both _ _ (gain false) (both _ _ (gain true)
    (both _ _ (result_plain line.play) (both _ _ refl (both _ _ (number_plain (line_score line.comparison)) refl))))))

pub deal_plain : (board : ℕ) (deal : Option (List ℕ)) → IsPlain (deal_data board deal)
deal_plain board None = refl
deal_plain board (Some hands) = refl

board_plain : (s : SessionValue) (board : ℕ) → IsPlain (board_data s board)
board_plain s board =
    let available = available_on s board in
    both _ _ refl (both _ _ (deal_plain board (deal_on s.deals board)) (both _ _ refl
    (both _ _ (list_plain (play_data s available) (play_plain s available) (traveller s board))
    (both _ _ (text_plain (vulnerability_text (vulnerability_on board))) refl))))

pub total_plain : (scoring : Scoring) (ranked : Ranked) → IsPlain (total_data scoring ranked)
total_plain MatchPoints ranked =
    both _ _ (text_plain (tenths_text ranked.available)) (both _ _ (percent_plain (share_percent ranked)) (both _ _ (text_plain (tenths_text (unsigned_abs ranked.value))) refl))
total_plain Imps ranked = both _ _ refl (both _ _ refl (both _ _ (text_plain (signed_decimal ranked.value)) refl))

pub names_plain : (pairs : List Pair) (pair : ℕ) → IsPlain (names_data pairs pair)
names_plain pairs pair = both _ _ (text_plain (player_name pairs pair true)) (both _ _ (text_plain (player_name pairs pair false)) refl)

ranked_plain : (scoring : Scoring) (pairs : List Pair) (ranked : Ranked) → IsPlain (ranked_data scoring pairs ranked)
ranked_plain scoring pairs ranked =
    both _ _ (names_plain pairs ranked.pair) (both _ _ refl (both _ _ refl (both _ _ (total_plain scoring ranked) refl)))

field_plain : (configuration : ConfigValue) (ranking : Option (List Ranked)) → IsPlain (field_data configuration ranking)
field_plain configuration None = refl
field_plain configuration (Some ranking) = list_plain (ranked_data configuration.scoring configuration.pairs) (ranked_plain configuration.scoring configuration.pairs) ranking

pub event_plain : (configuration : ConfigValue) → IsPlain (event_data configuration)
event_plain configuration =
    both _ _ (text_plain configuration.date) (both _ _ (text_plain configuration.event)
    (both _ _ (text_plain (scoring_text configuration.scoring)) (both _ _ (text_plain configuration.site) refl)))

-- the object has no float
pub results_plain : (s : SessionValue) (first second : Option (List Ranked)) → has_float (results_data s first second) ≡ false
unfolding results_data
results_plain s first second =
    both _ _ (list_plain (board_data s) (board_plain s) (range_with_len 1 36))
    (both _ _ (event_plain s.configuration) (both _ _ (field_plain s.configuration first) (both _ _ (field_plain s.configuration second) refl)))
