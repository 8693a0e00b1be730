use Rattle.std.proofs.Common.{◌≡◌, ◌⊎◌, true, false}
use Rattle.http_server.specs.Connection.{config_of, history}
use Rattle.http_server.specs.History.{IsQuiet}
use Rattle.http_server.specs.Exchange.{Calls}
use Rattle.web_loop.specs.Turns.{AnswersFirst, Grows, Receives, Sends}
use Rattle.web_loop.proofs.turn.take_turn.Given as goal

abbrev pub invariant-loop : goal.invariant-loop
invariant-loop g l =
    Receives (history l.fn.connection) (history l.connection) (g.R.Read.remaining l.fn.reader) (g.R.Read.remaining l.reader)
    × Sends (history l.fn.connection) (history l.connection) (g.W.Write.contents l.fn.writer) (g.W.Write.contents l.writer)
    × Calls g.S.Service.answers l.fn.service l.service (history l.fn.connection).calls (history l.connection).calls
    × (g.S.LastingService.waits l.service ≡ g.S.LastingService.waits l.fn.service)
    × (config_of l.connection ≡ config_of l.fn.connection)
    × (l.counter ≡ 0 → l.connection ≡ l.fn.connection)
    × (l.counter ≡ 0 → l.service ≡ l.fn.service)
    × ((l.counter ≡ 0) ⊎ AnswersFirst g.S.Service.answers (config_of l.fn.connection) l.fn.service l.service (history l.fn.connection) (history l.connection))
    × ((history l.fn.connection).ended ≡ true → (history l.connection).ended ≡ true)
    × (l.moved ≡ false → IsQuiet (history l.fn.connection) (history l.connection))
    × (l.moved ≡ true → Grows (history l.fn.connection) (history l.connection))
