use Rattle.std.proofs.Common.{◌≡◌, ◌∙◌, ◌++◌, ℕ, List, ap, codes}
use Rattle.club_commands.specs.declared.release.TheConstants.{VERSION, KIT}
use Rattle.club_commands.specs.Run.{version_line}
use Rattle.club_commands.proofs.version.run_version.Goals as goal

pub returns : goal.returns
returns g c =
    let name = c.push_str.ensures.bytes ∙ ap (λ (t : List ℕ). t ++ codes "bridge_club ") c.new-line.ensures in
    let version = c.push_str-2.ensures.bytes ∙ ap (λ (t : List ℕ). t ++ VERSION.now) name in
    let proved = c.push_str-3.ensures.bytes ∙ ap (λ (t : List ℕ). t ++ codes ", proved with ") version in
    let kit = c.push_str-4.ensures.bytes ∙ ap (λ (t : List ℕ). t ++ KIT.now) proved in
    let is : c.as_str.result.now ≡ version_line =
    c.as_str.ensures.value ∙ c.push_str-5.ensures.bytes ∙ ap (λ (t : List ℕ). t ++ codes "\n") kit in
    rw is at c.write_output.ensures
