-- What contracts see of the parts that are read.
use Rattle.std.specs.Prelude.{map, Result, Ok, Err}
use Rattle.std.specs.Str.Lines.{lines}
use Rattle.bridge_config.specs.declared.refused.ConfigFault.{ConfigFault}
use Rattle.bridge_config.specs.declared.reading.Heading.{Heading as HeadingType}
use Rattle.bridge_config.specs.declared.reading.Moved.{Moved as MovedType}
use Rattle.bridge_config.specs.declared.reading.People.{People as PeopleType}
use Rattle.bridge_config.specs.ConfigValue.{pair_of, key_number, Heading, People}
use Rattle.bridge_config.specs.Reading.{Moved}

-- the heading as it is read
abbrev pub view_of_heading : HeadingType → Heading
view_of_heading heading = record {
  event = heading.event.bytes;
  site = heading.site.bytes;
  date = heading.date.bytes;
  scoring = heading.scoring;
  boards = heading.boards;
}

-- the movement as it is read, and the lines after it
abbrev pub view_of_moved : MovedType → Moved
view_of_moved moved = record { movement = moved.movement; number = moved.number; rest = lines moved.rest.now }

-- the same of a movement or a fault
abbrev pub moved_of : Result MovedType ConfigFault → Result Moved ConfigFault
moved_of (Ok moved) = Ok (view_of_moved moved)
moved_of (Err fault) = Err fault

-- the director and the pairs as they are read
abbrev pub view_of_people : PeopleType → People
view_of_people people = record { director = key_number people.director; pairs = map pair_of people.pairs.items }
