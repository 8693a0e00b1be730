-- What is told of names.
use Rattle.std.proofs.Common.{◌≡◌, ◌≢◌, ℕ, List, refl}
use Rattle.line_replies.specs.ReplyTexts.{short_text}
use Rattle.line_replies.specs.declared.short_reply.ShortReply.{ShortReply}
use Rattle.line_replies.specs.declared.short_reply.ShortReply.TheVariants.{Done, Refused, Illegal, BadLine, LongLine, Disk, EpochsSpent}
use Rattle.table_pages.specs.People.{names_text}

-- to a refusal nothing is added
pub refusal_told : (people : List ℕ) (reply : ShortReply) → reply ≢ Done → short_text reply ≡ names_text people reply
refusal_told people Done other = absurd (other refl)
refusal_told people (Refused refused) other = refl
refusal_told people (Illegal refused) other = refl
refusal_told people BadLine other = refl
refusal_told people LongLine other = refl
refusal_told people Disk other = refl
refusal_told people EpochsSpent other = refl
