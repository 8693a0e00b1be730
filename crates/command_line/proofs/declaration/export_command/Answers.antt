use Rattle.command_line.proofs.declaration.export_command.Goals as goal

pub returns : goal.returns
returns c =
    let with_disk = c.argument.ensures _ _ c.new.ensures c.disks_argument.ensures in
    let with_csv = c.argument-2.ensures _ _ with_disk c.csv_argument.ensures in
    let with_rankings = c.argument-3.ensures _ _ with_csv c.rankings_argument.ensures in
    let with_json = c.argument-4.ensures _ _ with_rankings c.json_argument.ensures in
    let with_pbn = c.argument-5.ensures _ _ with_json c.games_argument.ensures in
    c.argument-6.ensures _ _ with_pbn c.no_analysis_argument.ensures
