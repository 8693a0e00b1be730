-- The names of the players, as they are told to who has a key.
use Rattle.std.specs.Prelude.{ℕ, List, ◌++◌, codes}
use Rattle.line_replies.specs.ReplyTexts.{short_text}
use Rattle.line_replies.specs.declared.short_reply.ShortReply.{ShortReply}
use Rattle.line_replies.specs.declared.short_reply.ShortReply.TheVariants.{Done}

-- to the holder of a key these lines, between `OK` and a full stop on lines of their own; to other bytes the refusal
abbrev pub names_text : List ℕ → ShortReply → List ℕ
names_text people Done = (codes "OK\n" ++ people) ++ codes ".\n"
names_text people reply = short_text reply
