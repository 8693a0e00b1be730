use Rattle.std.proofs.Common.{inl, inr, refl}
use Rattle.table_pages.proofs.pages.TablePages.put_lines.Goals as goal

pub returns-in-Some-clause-counted : goal.returns-in-Some-clause-counted
returns-in-Some-clause-counted g c = inl (c.in-Some.replies.wrong_keys, c.in-Some.ensures.counts, c.saturating_add-self.ensures)

pub returns-in-None-clause-counted : goal.returns-in-None-clause-counted
returns-in-None-clause-counted g c = inr (c.in-None.ensures.answers, refl)
