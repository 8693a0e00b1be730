-- What is written for the deals of a file.
use Rattle.std.specs.Prelude.{◌≡◌, ◌⊎◌, ◌≤◌, ◌<◌, ◌++◌, ℕ, Bool, true, false, List, length, Option, Some, None, Result, Ok, Err, IfErr, MatchResult}
use Rattle.std.specs.Io.KnownBytes.{IsAtEnd}
use Rattle.std.specs.Str.Lines.{lines}
use Rattle.line_text.specs.Streams.{Stream, Gives, IsUntouched, Written, stream}
use Rattle.makeable_deals.specs.declared.board_deal.BoardDeal.{BoardDeal}
use Rattle.makeable_deals.specs.declared.refused.DealsFault.{DealsFault}
use Rattle.makeable_deals.specs.declared.refused.DealsFault.TheVariants.{Memory}
use Rattle.makeable_deals.specs.declared.file.MakeableFault.{MakeableFault}
use Rattle.makeable_deals.specs.declared.file.MakeableFault.TheVariants.{Read, Write, LongText, Deals}
use Rattle.makeable_deals.specs.declared.file.MakeableForm.{MakeableForm}
use Rattle.makeable_deals.specs.declared.file.MakeableForm.TheVariants.{Lines, Games}
use Rattle.makeable_deals.specs.declared.text.TheConstants.{TEXT_BYTES}
use Rattle.makeable_deals.specs.Makeable.{makeable_text}
use Rattle.makeable_deals.specs.Games.{games_text}
use Rattle.makeable_deals.specs.Reading.{ReadsDeals}

-- how it ended
abbrev pub Made : Type 0
Made = Result (Unit {0}) MakeableFault

-- ---- what is read

-- one read more: the reader gave some bytes, which follow the text, or it is at its end
pub record ReadsOn (reader : Stream) (old new : List ℕ) (some : Bool) : Type 0 where
  pub bytes : List ℕ
  pub grown : new ≡ old ++ bytes
  pub given : Gives reader bytes
  pub more : some ≡ true → length old < length new
  pub end : some ≡ false → IsAtEnd reader.new

-- the reader gave this text, and all that it has, unless that is more than is read
pub record IsTextRead (reader : Stream) (text : List ℕ) : Type 0 where
  pub given : Gives reader text
  pub whole : length text < TEXT_BYTES → IsAtEnd reader.new

-- a read failed, or memory was refused
abbrev pub IsNoText : MakeableFault → Type 0
IsNoText fault = (fault ≡ Read) ⊎ (fault ≡ Deals Memory)

-- ---- what is written

-- nothing is written, and that is the fault
abbrev pub IsStopped : Stream → Made → MakeableFault → Type 0
IsStopped output made fault = (made ≡ Err fault) × IsUntouched output

-- what is written of the deals of a text
abbrev pub text_in : MakeableForm → List ℕ → List BoardDeal → List ℕ
text_in Lines text deals = makeable_text deals
text_in Games text deals = games_text (lines text) deals

-- that is written; or a prefix of it, where a write failed or memory was refused
abbrev pub WritesDeals : Stream → Made → MakeableForm → List ℕ → List BoardDeal → Type 0
WritesDeals output made form text deals = Written output (text_in form text deals) made × IfErr made (λ fault. (fault ≡ Write) ⊎ (fault ≡ Deals Memory))

-- of the deals of a text; or its first fault, and nothing is written
abbrev pub MakesOf : Stream → Made → MakeableForm → List ℕ → Type 0
MakesOf output made form text =
    ((length text < TEXT_BYTES) × (deals : List BoardDeal) × ReadsDeals (lines text) (Ok deals) × WritesDeals output made form text deals)
    ⊎ (((length text < TEXT_BYTES) × (fault : DealsFault) × ReadsDeals (lines text) (Err fault) × IsStopped output made (Deals fault))
    ⊎ ((TEXT_BYTES ≤ length text) × IsStopped output made LongText))

-- the same, or no text could be read
abbrev pub Makes : Stream → Made → MakeableForm → Option (List ℕ) → Type 0
Makes output made form None = (fault : MakeableFault) × IsNoText fault × IsStopped output made fault
Makes output made form (Some text) = MakesOf output made form text

-- that holds of the text that a reader gave, or of none
abbrev pub OfReader : (Option (List ℕ) → Type 0) → Stream → Type 0
OfReader P reader = P None ⊎ ((text : List ℕ) × IsTextRead reader text × P (Some text))

-- the same of a file that was found, which still gives these bytes; one that is not found counts as one that cannot be read
abbrev pub OfFound : {F E : Type 0} → (F → Option (List ℕ)) → (Option (List ℕ) → Type 0) → Result F E → Type 0
OfFound {F = F} remaining P found = MatchResult found (λ file. (after : F) × OfReader P (stream remaining file after)) (λ _. P None)

-- the same of some text: that it is the text of a file no contract can say
abbrev pub OfFile : (Option (List ℕ) → Type 0) → Type 0
OfFile P = P None ⊎ ((text : List ℕ) × P (Some text))
