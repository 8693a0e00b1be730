use Rattle.page_layout.proofs.Walk.{then_written, failed_before}
use Rattle.page_layout.specs.declared.format.Format.TheVariants.{Html}
use Rattle.bridge_results.specs.EventText.{event_text}
use Rattle.bridge_results.specs.HtmlPage.{html_event, page_links}
use Rattle.bridge_results.proofs.html.front.write_top.Goals as goal

pub returns-in_err-write_event : goal.returns-in_err-write_event
unfolding html_event
returns-in_err-write_event g c =
    failed_before _ _ (event_text Html c.args.config.now) page_links _ c.from_residual.ensures.0 c.in_err-write_event.ensures

pub returns : goal.returns
unfolding html_event
returns g c =
    then_written _ _ _ (event_text Html c.args.config.now) page_links _ c.in_ok-write_event.ensures c.write_text.ensures
