-- What pages are shown, and where.
use Rattle.std.specs.Prelude.{ℕ, List, string_bytes}
use Rattle.table_pages.specs.declared.host_names.HostNames.{HostNames}
use Rattle.table_pages.specs.declared.page_texts.PageTexts.{PageTexts}

-- The texts that pages were made with, the two names of their server, and the lines that tell the names of the players.
pub record Site : Type 0 where
  pub texts : PageTexts
  pub host : List ℕ
  pub alias : List ℕ
  pub people : List ℕ

-- these texts, at a server of these names, with these lines
abbrev pub site_of : PageTexts → HostNames → List ℕ → Site
site_of texts names people =
    record { texts = texts; host = string_bytes names.host; alias = string_bytes names.alias; people = people }
