-- The pages of the program.
use Rattle.std.specs.Prelude.{◌≡◌}
use Rattle.page_assets.specs.declared.assets.TheConstants.{PAGE, STYLE, TEXTS_SCRIPT, SHARED_SCRIPT, TABLE_SCRIPT, BOARDS_SCRIPT, DESK_SCRIPT, DIRECTOR_SCRIPT, UNKNOWN_PAGE, WRONG_HOST}
use Rattle.table_pages.specs.declared.page_texts.PageTexts.{PageTexts}

-- these are the texts that stand in `web/`
pub record AreClubTexts (texts : PageTexts) : Type 0 where
  pub page : texts.page.now ≡ PAGE.now
  pub style : texts.style.now ≡ STYLE.now
  pub texts_script : texts.texts_script.now ≡ TEXTS_SCRIPT.now
  pub shared_script : texts.shared_script.now ≡ SHARED_SCRIPT.now
  pub table_script : texts.table_script.now ≡ TABLE_SCRIPT.now
  pub boards_script : texts.boards_script.now ≡ BOARDS_SCRIPT.now
  pub desk_script : texts.desk_script.now ≡ DESK_SCRIPT.now
  pub director_script : texts.director_script.now ≡ DIRECTOR_SCRIPT.now
  pub unknown_page : texts.unknown_page.now ≡ UNKNOWN_PAGE.now
  pub wrong_host : texts.wrong_host.now ≡ WRONG_HOST.now

-- it holds of a program with these texts
abbrev pub OfClub : (PageTexts → Type 0) → Type 0
OfClub P = (texts : PageTexts) × AreClubTexts texts × P texts
