-- The reply to a question for the results.
use Rattle.std.specs.Prelude.{ℕ, List, ◌++◌, codes}
use Rattle.session_rules.specs.State.{SessionValue}
use Rattle.bridge_pbn.specs.Games.{session_text}

-- the text, and a full stop on a line of its own
unfoldable pub text_and_stop : SessionValue → List ℕ
text_and_stop s = session_text s ++ codes ".\n"

-- `OK`, and these
abbrev pub pbn_reply : SessionValue → List ℕ
pbn_reply s = codes "OK\n" ++ text_and_stop s
