use Rattle.std.proofs.KnownBytes.{Keeps-refl}
use Rattle.club_commands.proofs.run.do_command.Goals as goal

pub returns-in-Auction : goal.returns-in-Auction
returns-in-Auction g c = rw c.in-Auction.is c.hold_auction.ensures

pub returns-in-Format : goal.returns-in-Format
returns-in-Format g c = rw c.in-Format.is c.run_format.ensures

pub returns-in-Script : goal.returns-in-Script
returns-in-Script g c = rw c.in-Script.is c.serve_set.ensures

pub returns-in-Correct : goal.returns-in-Correct
returns-in-Correct g c = rw c.in-Correct.is c.correct.ensures

pub returns-in-Serve : goal.returns-in-Serve
returns-in-Serve g c = rw c.in-Serve.is c.accept.ensures

pub returns-in-Web : goal.returns-in-Web
returns-in-Web g c = rw c.in-Web.is c.run_web.ensures

pub returns-in-Rank : goal.returns-in-Rank
returns-in-Rank g c = rw c.in-Rank.is c.tell.ensures

pub returns-in-Pbn : goal.returns-in-Pbn
returns-in-Pbn g c = rw c.in-Pbn.is c.tell-in-Pbn.ensures

pub returns-in-Results : goal.returns-in-Results
returns-in-Results g c = rw c.in-Results.is c.write_page.ensures

pub returns-in-Export : goal.returns-in-Export
returns-in-Export g c = rw c.in-Export.is c.export.ensures

pub returns-in-Event : goal.returns-in-Event
returns-in-Event g c = rw c.in-Event.is (rw c.in-Event.is at c.run_event.ensures, Keeps-refl _)

pub returns-in-Check : goal.returns-in-Check
returns-in-Check g c = rw c.in-Check.is c.run_check.ensures

pub returns-in-Plan : goal.returns-in-Plan
returns-in-Plan g c = rw c.in-Plan.is (c.make_plan.ensures, Keeps-refl _)

pub returns-in-Draft : goal.returns-in-Draft
returns-in-Draft g c = rw c.in-Draft.is (c.make_draft.ensures, Keeps-refl _)

pub returns-in-Slips : goal.returns-in-Slips
returns-in-Slips g c = rw c.in-Slips.is (c.make_slips.ensures, Keeps-refl _)

pub returns-in-Evening : goal.returns-in-Evening
returns-in-Evening g c = rw c.in-Evening.is c.run_evening.ensures

pub returns-in-Makeable : goal.returns-in-Makeable
returns-in-Makeable g c = rw c.in-Makeable.is (c.write_makeable.ensures, Keeps-refl _)

pub returns-in-Copy : goal.returns-in-Copy
returns-in-Copy g c = rw c.in-Copy.is c.run_copy.ensures

pub returns-in-Version : goal.returns-in-Version
returns-in-Version g c = rw c.in-Version.is (c.run_version.ensures, Keeps-refl _)
