-- Lines that came in one request, answered over two stores of one session.
use Rattle.std.specs.Prelude.{◌≡◌, ◌⊎◌, ◌&&◌, ℕ, Bool, true, false, not, List, [], codes, Option, None, Some, string_bytes, option_map}
use Rattle.sector_disk.specs.Disk.{Disk}
use Rattle.session_store.specs.Pair.{IsToldPair, OneWorks}
use Rattle.session_store.specs.Store.{Continues}
use Rattle.session_store.specs.Value.{StoreValue}
use Rattle.session_rules.specs.declared.action.Action.{Action}
use Rattle.session_rules.specs.State.{SessionValue}
use Rattle.bridge_session.specs.SessionKeeping.{session_keeping}
use Rattle.session_pair.specs.Telling.{of_side, shown_of, CannotTell}
use Rattle.session_store.specs.Pair.{standing_of}
use Rattle.session_store.specs.declared.standing.PairStanding.{PairStanding}
use Rattle.session_store.specs.declared.standing.PairStanding.TheVariants.{FirstLost, SecondLost}
use Rattle.desk_replies.specs.Desk.{with_disk, with_kept}
use Rattle.desk_replies.specs.declared.desk.Desk.{Desk}
use Rattle.desk_replies.specs.declared.kept.KeptDisks.{KeptDisks}
use Rattle.desk_replies.specs.declared.kept.KeptOn.{KeptOn}
use Rattle.pair_pages.specs.declared.disk_names.DiskNames.{DiskNames}
use Rattle.table_server.specs.declared.line_set.LineSet.{LineSet}
use Rattle.table_pages.specs.Answered.{AnswersLines, CountsKeys, is_settled, kept_on}
use Rattle.table_pages.specs.declared.line_server.Replies.{Replies}

-- two stores of a session, and whether nothing more may be told of it
pub record PairValue (D E : Type 0) : Type 0 where
  pub first : StoreValue D SessionValue Action
  pub second : StoreValue E SessionValue Action
  pub stopped : Bool

-- these
abbrev pub pair_of : {D E : Type 0} → StoreValue D SessionValue Action → StoreValue E SessionValue Action → Bool → PairValue D E
pair_of first second stopped = record { first = first; second = second; stopped = stopped }

-- the text of replies, where there are any
abbrev pub told_text : Option Replies → Option (List ℕ)
told_text replies = option_map (λ (told : Replies). told.text.items) replies

-- the session that is shown: that of a side that works
abbrev pub session_of : {D E : Type 0} → PairValue D E → SessionValue
session_of pair = shown_of pair.first pair.second

-- what the director is told of the disks that stand so
abbrev pub disk_name : DiskNames → Option PairStanding → List ℕ
disk_name names (Some FirstLost) = string_bytes names.first_lost
disk_name names (Some SecondLost) = string_bytes names.second_lost
disk_name names _ = string_bytes names.level

-- the line of standard error that says that the disk is lost, or the copy
abbrev pub lost_of : Bool → List ℕ
lost_of true = codes "disk lost, session goes on in the copy\n"
lost_of false = codes "copy lost, session goes on in the disk\n"

-- the line of standard error once the disks stand so
abbrev pub lost_line : DiskNames → Option PairStanding → List ℕ
lost_line names (Some FirstLost) = lost_of names.disk_first
lost_line names (Some SecondLost) = lost_of (not names.disk_first)
lost_line names _ = []

-- the first disk of a pair is named before the second: where that one is lost; or where both are kept and it is the disk, and the
-- other its copy
abbrev pub is_named_first : DiskNames → Option PairStanding → Bool
is_named_first names (Some FirstLost) = false
is_named_first names (Some SecondLost) = true
is_named_first names _ = names.disk_first

-- what is kept on the disks of a pair, in the order in which they are named
abbrev pub named_in_order : Bool → KeptOn → KeptOn → KeptDisks
named_in_order true first second = record { first = Some first; second = Some second }
named_in_order false first second = record { first = Some second; second = Some first }

-- what is kept on the disks of two stores
abbrev pub kept_of : {D E : Type 0} → DiskNames → StoreValue D SessionValue Action → StoreValue E SessionValue Action → KeptDisks
kept_of names first second =
    named_in_order (is_named_first names (standing_of first.failed second.failed)) (kept_on first) (kept_on second)

-- what stands beside the session, where the disks have that name and that is kept on them
abbrev pub desk_of : {D E : Type 0} → DiskNames → StoreValue D SessionValue Action → StoreValue E SessionValue Action → Desk → Desk
desk_of names first second desk =
    with_kept (with_disk desk (disk_name names (standing_of first.failed second.failed))) (kept_of names first second)

-- nothing is pending in either store that works
abbrev pub are_settled : {D E : Type 0} → PairValue D E → Bool
are_settled pair = is_settled pair.first.failed pair.first.pending && is_settled pair.second.failed pair.second.pending

-- so many of the complete lines of these bytes, of a set, have a key that is nobody's in the session of a side
abbrev pub CountsInPair : {D E : Type 0} → LineSet → PairValue D E → List ℕ → ℕ → Type 0
CountsInPair set pair body count = CountsKeys set pair.first body count ⊎ CountsKeys set pair.second body count

module _ {D E : Type 0} (first : Disk D) (second : Disk E) where
  -- Both stores were served a body of lines, of a set, and then settled. What one side answered may be told: one works, and where
  -- some state might be told of the pair before, the state that is shown may be told of it now. The text is that of a side that
  -- works. Nothing more may be told only where the stores differ then or cannot be settled.
  pub record IsServedTwice (set : LineSet) (old : PairValue D E) (body : List ℕ) (text : Option (List ℕ)) (new : PairValue D E) : Type 0 where
    pub first_text : Option (List ℕ)
    pub first_served : StoreValue D SessionValue Action
    pub first_answers : AnswersLines first set old.first body first_text first_served
    pub first_settled : Continues session_keeping first first_served [] new.first
    pub second_text : Option (List ℕ)
    pub second_served : StoreValue E SessionValue Action
    pub second_answers : AnswersLines second set old.second body second_text second_served
    pub second_settled : Continues session_keeping second second_served [] new.second
    pub may_tell : new.stopped ≡ false → OneWorks session_keeping first second new.first new.second
    pub told : new.stopped ≡ false → (s : SessionValue) → IsToldPair session_keeping first second old.first old.second s
        → IsToldPair session_keeping first second new.first new.second (session_of new)
    pub text_is : new.stopped ≡ false → text ≡ of_side new.first.failed first_text second_text
    pub untold : new.stopped ≡ true → text ≡ None
    pub stops : new.stopped ≡ true → CannotTell first second first_served second_served new.first new.second

  -- a body was answered so; or, once nothing more may be told, nothing was
  abbrev pub AnswersBy : Bool → LineSet → PairValue D E → List ℕ → Option (List ℕ) → PairValue D E → Type 0
  AnswersBy false set old body text new = IsServedTwice set (pair_of old.first old.second false) body text new
  AnswersBy true set old body text new = (text ≡ None) × (new ≡ old)

  -- a body of lines was answered over a pair
  abbrev pub AnswersPair : LineSet → PairValue D E → List ℕ → Option (List ℕ) → PairValue D E → Type 0
  AnswersPair set old body text new = AnswersBy old.stopped set old body text new
