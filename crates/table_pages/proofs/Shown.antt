-- What requests to the pages make of the server of lines.
use Rattle.std.proofs.Common.{◌≡◌, ℕ, Bool, List, [], ◌∷◌, Option, refl, ap, ◌∙◌, subst}
use Rattle.desk_replies.specs.declared.desk.Desk.{Desk}
use Rattle.line_replies.specs.declared.short_reply.ShortReply.{ShortReply}
use Rattle.http.specs.declared.request.Request.{Request}
use Rattle.http_server.specs.declared.response.Response.{Response}
use Rattle.http_server.specs.Exchange.{Call, Chain}
use Rattle.web_loop.specs.Turns.{LeadsTo}
use Rattle.table_server.specs.declared.line_set.LineSet.{LineSet}
use Rattle.table_pages.specs.declared.host_names.HostNames.{HostNames}
use Rattle.table_pages.specs.declared.page_texts.PageTexts.{PageTexts}
use Rattle.table_pages.specs.Responses.{Answering}
use Rattle.table_pages.specs.Site.{Site, site_of}

-- Calls that keep the site lead the server as they lead the pages.
module _ {P T : Type 0} (answers : LineSet → T → List ℕ → Option (List ℕ) → T → Type 0) (failed : T → Bool) (places tables : T → List ℕ → List ℕ) (waits : T → List ℕ → ShortReply) (boards : T → Bool → List ℕ → List ℕ) (desks : T → Desk → ℕ → List ℕ → List ℕ) (results : T → List ℕ → List ℕ → Type 0) (site : P → Site) (server : P → T)
    (serves : P → Request (List ℕ) → Response → P → Type 0)
    (each : (old new : P) (request : Request (List ℕ)) (response : Response) → serves old request response new
    → Answering answers failed places tables waits boards desks results (site old) (server old) request response (server new) × (site new ≡ site old)) where
  chain : (calls : List Call) (old new : P) (s : Site) → site old ≡ s → Chain serves old calls new
      → Chain (Answering answers failed places tables waits boards desks results s) (server old) calls (server new)
  chain [] old new s is_site same = ap server same
  chain (c ∷ calls) old new s is_site x =
      let one = each old x.0 c.0 c.1 x.1 in (
        server x.0,
        subst (λ (t : Site). Answering answers failed places tables waits boards desks results t (server old) c.0 c.1 (server x.0)) is_site one.0,
        chain calls x.0 new s (one.1 ∙ is_site) x.2,
      )

  pub leads : (old new : P) → LeadsTo serves old new → LeadsTo (Answering answers failed places tables waits boards desks results (site old)) (server old) (server new)
  leads old new x = (x.0, chain x.0 old new (site old) refl x.1)

-- the same texts, names and lines, the same site
pub same_site : (texts other_texts : PageTexts) (names other_names : HostNames) (people other_people : List ℕ) → names ≡ other_names
    → texts ≡ other_texts → people ≡ other_people → site_of texts names people ≡ site_of other_texts other_names other_people
same_site texts other_texts names other_names people other_people n t p = rw (n, t, p) refl
