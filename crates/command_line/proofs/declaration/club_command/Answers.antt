use Rattle.command_line.proofs.Alone.{app_alone}
use Rattle.command_line.proofs.declaration.club_command.Goals as goal

pub returns : goal.returns
returns c =
    let with_auction = c.command.ensures _ _ c.bare_command.ensures c.auction_command.ensures in
    let with_format = c.command-2.ensures _ _ with_auction c.format_command.ensures in
    let with_script = c.command-3.ensures _ _ with_format c.script_command.ensures in
    let with_serve = c.command-4.ensures _ _ with_script c.serve_command.ensures in
    let with_web = c.command-5.ensures _ _ with_serve c.web_command.ensures in
    let with_rank = c.command-6.ensures _ _ with_web c.rank_command.ensures in
    let with_pbn = c.command-7.ensures _ _ with_rank c.pbn_command.ensures in
    let with_results = c.command-8.ensures _ _ with_pbn c.results_command.ensures in
    let with_check = c.command-9.ensures _ _ with_results c.check_command.ensures in
    let with_plan = c.command-10.ensures _ _ with_check c.plan_command.ensures in
    let with_correct = c.command-11.ensures _ _ with_plan c.correct_command.ensures in
    let with_draft = c.command-12.ensures _ _ with_correct c.draft_command.ensures in
    let with_slips = c.command-13.ensures _ _ with_draft c.slips_command.ensures in
    let with_evening = c.command-14.ensures _ _ with_slips c.evening_command.ensures in
    let with_makeable = c.command-15.ensures _ _ with_evening c.makeable_command.ensures in
    let with_export = c.command-16.ensures _ _ with_makeable c.export_command.ensures in
    let with_copy = c.command-17.ensures _ _ with_export c.copy_command.ensures in
    let with_version = c.command-club.ensures _ _ with_copy c.version_command.ensures in
    app_alone _ _ with_version
