use Rattle.command_line.proofs.declaration.results_command.Goals as goal

pub returns : goal.returns
returns c =
    let with_disk = c.argument.ensures _ _ c.new.ensures c.disks_argument.ensures in
    let with_html = c.argument-2.ensures _ _ with_disk c.html_argument.ensures in
    let with_no_analysis = c.argument-3.ensures _ _ with_html c.no_analysis_argument.ensures in
    c.argument-4.ensures _ _ with_no_analysis c.names_option.ensures
