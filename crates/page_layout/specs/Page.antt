-- Pages: their heads, sections, headings and paragraphs, in plain text and in HTML.
use Rattle.std.specs.Prelude.{ℕ, List, [], ◌++◌, codes}
use Rattle.page_layout.specs.declared.format.Format.{Format}
use Rattle.page_layout.specs.declared.format.Format.TheVariants.{Plain, Html}
use Rattle.page_layout.specs.declared.format.Level.{Level}
use Rattle.page_layout.specs.declared.format.Level.TheVariants.{Title, Sheet, Part}
use Rattle.page_layout.specs.declared.format.Section.{Section}
use Rattle.page_layout.specs.declared.format.Section.TheVariants as section
use Rattle.page_layout.specs.declared.format.Content.TheVariants.{Words}
use Rattle.page_layout.specs.declared.style.TheConstants.{PAGE_START, PAGE_STYLE}
use Rattle.page_layout.specs.Html.{html_text}

-- what begins a page of that title: in HTML its head and its style
abbrev pub page_start : Format → List ℕ → List ℕ
page_start Plain title = []
page_start Html title = (PAGE_START.now ++ html_text Words title) ++ PAGE_STYLE.now

-- what ends a page
abbrev pub page_end : Format → List ℕ
page_end Plain = []
page_end Html = codes "</body>\n</html>\n"

-- the class of a section, by which it is printed
abbrev pub section_class : Section → List ℕ
section_class section.Sheet = codes "sheet"
section_class section.Traveller = codes "traveller"
section_class section.ScoreCard = codes "card"

-- what begins a section
abbrev pub section_start : Format → Section → List ℕ
section_start Plain section = []
section_start Html section = (codes "<section class=\"" ++ section_class section) ++ codes "\">\n"

-- what ends a section
abbrev pub section_end : Format → List ℕ
section_end Plain = []
section_end Html = codes "</section>\n"

-- words on a line of their own: in HTML between their tags
abbrev pub block_text : Format → List ℕ → List ℕ → List ℕ → List ℕ
block_text Plain start end words = words ++ codes "\n"
block_text Html start end words = ((start ++ html_text Words words) ++ end) ++ codes "\n"

-- what begins a heading in HTML
abbrev pub heading_start : Level → List ℕ
heading_start Title = codes "<h1>"
heading_start Sheet = codes "<h2>"
heading_start Part = codes "<h3>"

-- what ends a heading in HTML
abbrev pub heading_end : Level → List ℕ
heading_end Title = codes "</h1>"
heading_end Sheet = codes "</h2>"
heading_end Part = codes "</h3>"

-- what stands before a heading in plain text: an empty line, but for the title
abbrev pub heading_gap : Format → Level → List ℕ
heading_gap Html level = []
heading_gap Plain Title = []
heading_gap Plain Sheet = codes "\n"
heading_gap Plain Part = codes "\n"

-- a heading
abbrev pub heading_text : Format → Level → List ℕ → List ℕ
heading_text format level words = heading_gap format level ++ block_text format (heading_start level) (heading_end level) words

-- a paragraph
abbrev pub paragraph_text : Format → List ℕ → List ℕ
paragraph_text format words = block_text format (codes "<p>") (codes "</p>") words
