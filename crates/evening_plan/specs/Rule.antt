-- What a line must be, in words.
use Rattle.std.specs.Prelude.{ℕ, List, codes}
use Rattle.evening_plan.specs.declared.line_kind.LineKind.{LineKind}
use Rattle.evening_plan.specs.declared.line_kind.LineKind.TheVariants.{Event, Site, Date, Scoring, Boards, Mitchell, Movement, Row, Director, Pair, End}

-- the sixth line, in either form
abbrev pub movement_rule : List ℕ
movement_rule =
    codes "due: MITCHELL and the number of tables, or MOVEMENT and the numbers of tables, rounds, sets and\n  pairs, and of the last pair of the first field\n  numbers: 2 to 12 tables, 1 to 12 rounds, 1 to 12 sets, 2 to 24 pairs; the last is one of these\n"

-- what the line must be, in one to three lines
abbrev pub rule_of : LineKind → List ℕ
rule_of Event = codes "due: EVENT and the event's name\n  name: letters, digits, . - _ alone, 1 to 24 of them\n"
rule_of Site = codes "due: SITE and the name of where it is played\n  name: letters, digits, . - _ alone, 1 to 24 of them\n"
rule_of Date = codes "due: DATE and the date, as DATE 2026.03.14\n  date: four, two and two digits; the month from 01 to 12, the day from 01 to 31\n"
rule_of Scoring = codes "due: SCORING MP for matchpoints, or SCORING IMP for IMPs\n"
rule_of Boards = codes "due: BOARDS and the number of boards in a set, 1 to 3\n"
rule_of Mitchell = movement_rule
rule_of Movement = movement_rule
rule_of Row =
    codes "due: ROW, its round, its table, the pair North and South, the pair East and West, and the set\n  rows: one for each table in each round, by round and then by table; pair 0 is nobody\n"
rule_of Director = codes "due: DIRECTOR and the director's key\n  key: a number from 0 to 4294967295; none stands twice\n"
rule_of (Pair index) =
    codes "due: PAIR, the pair's number, and the name and key of each of its two players\n  name: letters, digits, . - _ alone, 1 to 24 of them\n  key: a number from 0 to 4294967295; none stands twice\n"
rule_of End = codes "due: nothing, since the last pair's line is the last; no empty line follows either\n"
