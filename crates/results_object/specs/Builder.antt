-- An object of JSON that is being made.
use Rattle.std.specs.Prelude.{◌≡◌, IfOk}
use Rattle.serde_json.specs.Data.{Members}
use Rattle.serde_json.specs.View.{members_view}
use Rattle.results_object.specs.declared.builder.ObjectBuilder.{ObjectBuilder}

-- it has these members, unless memory was refused
abbrev pub HasMembers : Members → ObjectBuilder → Type 0
HasMembers members builder = IfOk builder.members (λ map. members_view map.entries ≡ members)
