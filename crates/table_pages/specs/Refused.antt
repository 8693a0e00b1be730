-- How refusals are told.
use Rattle.http_server.specs.declared.response.Response.{Response}
use Rattle.web_requests.specs.declared.route.Refusal.{Refusal}
use Rattle.web_requests.specs.declared.route.Refusal.TheVariants.{Misdirected, NotFound, OnlyRead, OnlyPosted, WrongType, TooLong}
use Rattle.web_requests.specs.Filled.{IsRefused, IsExplained}
use Rattle.table_pages.specs.declared.page_texts.PageTexts.{PageTexts}

-- A path at which there is nothing, and another name of the host, are explained by a page; other refusals have no body.
abbrev pub TellsRefused : PageTexts → Refusal → Response → Type 0
TellsRefused texts NotFound response = IsExplained NotFound texts.unknown_page.now response
TellsRefused texts Misdirected response = IsExplained Misdirected texts.wrong_host.now response
TellsRefused texts OnlyRead response = IsRefused OnlyRead response
TellsRefused texts OnlyPosted response = IsRefused OnlyPosted response
TellsRefused texts WrongType response = IsRefused WrongType response
TellsRefused texts TooLong response = IsRefused TooLong response
