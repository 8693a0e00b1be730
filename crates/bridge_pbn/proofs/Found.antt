-- What is known of a play that is there.
use Rattle.std.proofs.Common.{◌≡◌, ℕ, Bool, true, List, Option, Some, None, refl, sym, ap, ◌∙◌}
use Rattle.std.specs.Prelude.{if◌then◌else◌, option_and_then}
use Rattle.std.specs.Option.{option_map}
use Rattle.bridge_auction.specs.declared.contract.Contract.{Contract}
use Rattle.bridge_auction.specs.Auction.{AuctionValue}
use Rattle.bridge_play.specs.Play.{PlayValue}
use Rattle.bridge_movement.specs.declared.row.Row.{Row}
use Rattle.bridge_config.specs.ConfigValue.{ConfigValue}
use Rattle.session_rules.specs.declared.action.PlayId.{PlayId}
use Rattle.session_rules.specs.declared.outcome.Outcome.{Outcome}
use Rattle.session_rules.specs.Outcome.{outcome_of}
use Rattle.session_rules.specs.Record.{PlainRecord, bidding_of, playing_in, play_of, contract_in}
use Rattle.session_rules.specs.State.{SessionValue, deal_on, hands_on, record_of}
use Rattle.bridge_pbn.specs.Games.{game_lines_by, game_lines, game_at, play_at, listed_lines, is_listed}

-- the hands do not matter to the cards of a play
same_by_contract : (configuration : ConfigValue) (row : Row) (board : ℕ) (hands others : List ℕ) (outcome : Outcome) (plain : PlainRecord) (contract : Option Contract) → game_lines_by configuration row board hands outcome plain.calls (option_map (playing_in hands plain) contract) ≡ game_lines_by configuration row board hands outcome plain.calls (option_map (playing_in others plain) contract)
same_by_contract configuration row board hands others outcome plain None = refl
same_by_contract configuration row board hands others outcome plain (Some contract) = refl

-- the game of a record that is listed, by what its entry says
listed_by : (configuration : ConfigValue) (row : Row) (board : ℕ) (hands others : List ℕ) (plain : PlainRecord) (bidding : AuctionValue) (play : Option PlayValue) (outcome : Outcome) → bidding ≡ bidding_of plain → play ≡ play_of others plain → outcome ≡ outcome_of plain → is_listed outcome ≡ true → listed_lines configuration row board hands plain ≡ Some (game_lines_by configuration row board hands outcome bidding.calls play)
listed_by configuration row board hands others plain bidding play outcome bid played came is_one =
    let is : is_listed (outcome_of plain) ≡ true = ap is_listed (sym came) ∙ is_one in
    ap (λ (test : Bool). if test then Some (game_lines configuration row board hands plain) else None) is
    ∙ ap Some (same_by_contract configuration row board hands others (outcome_of plain) plain (contract_in plain))
    ∙ ap (λ (o : Outcome). Some (game_lines_by configuration row board hands o plain.calls (play_of others plain))) (sym came)
    ∙ ap (λ (b : AuctionValue). Some (game_lines_by configuration row board hands outcome b.calls (play_of others plain))) (sym bid)
    ∙ ap (λ (p : Option PlayValue). Some (game_lines_by configuration row board hands outcome bidding.calls p)) (sym played)

-- the game of a board by the pairs of a row, where its play has a record
pub game_found : (s : SessionValue) (board : ℕ) (row : Row) (hands : List ℕ) (place : PlayId) (found : Option PlainRecord) (bidding : AuctionValue) (play : Option PlayValue) (outcome : Outcome) → Some hands ≡ deal_on s.deals board → Some place ≡ play_at s.configuration board row → record_of s place ≡ found → Some bidding ≡ option_map bidding_of found → Some play ≡ option_map (λ plain. play_of (hands_on s.deals plain.board) plain) found → Some outcome ≡ option_map outcome_of found → is_listed outcome ≡ true → game_at s board row ≡ Some (game_lines_by s.configuration row board hands outcome bidding.calls play)
game_found s board row hands place None bidding play outcome dealt placed is bid played came is_one = cc
game_found s board row hands place (Some plain) bidding play outcome dealt placed is bid played came is_one =
    let bid_plain : bidding ≡ bidding_of plain = cc in
    let played_plain : play ≡ play_of (hands_on s.deals plain.board) plain = cc in
    let came_plain : outcome ≡ outcome_of plain = cc in
    ap (λ (d : Option (List ℕ)). option_and_then (λ h. option_and_then (listed_lines s.configuration row board h) (option_and_then (record_of s) (play_at s.configuration board row))) d) (sym dealt)
    ∙ ap (λ (p : Option PlayId). option_and_then (listed_lines s.configuration row board hands) (option_and_then (record_of s) p)) (sym placed)
    ∙ ap (λ (r : Option PlainRecord). option_and_then (listed_lines s.configuration row board hands) r) is
    ∙ listed_by s.configuration row board hands (hands_on s.deals plain.board) plain bidding play outcome bid_plain played_plain came_plain is_one
