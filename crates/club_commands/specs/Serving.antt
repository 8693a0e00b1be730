-- Lines that are answered over a store: those of standard input, or of connections, one after the other.
use Rattle.std.specs.Prelude.{◌≡◌, ◌<◌, ◌≤◌, ◌⊎◌, ℕ, zero, suc, false, List, Option, None, Result, Ok, Err, MatchResult}
use Rattle.club_commands.specs.Basis.{Stream, Disk, file_disk, StoreOn, ClubStore, ServeFault, Accept, Served, StreamFault, System, Listener}
use Rattle.std.specs.declared.net.tcp.TcpStream.{TcpStream}
use Rattle.table_server.specs.declared.line_set.LineSet.{LineSet}
use Rattle.table_server.specs.declared.served.ServedKeys.{ServedKeys}
use Rattle.table_server.specs.ServedStreams.{EndsCounting}
use Rattle.table_server.specs.Accepting.{HasServedOne, StopsServingOne}
use Rattle.club_commands.specs.Ended.{Ended, EndsOver}

module _ {D : Type 0} (disk : Disk D) where
  -- all lines of a stream, of a set, were answered, or those up to a fault of the streams, by which the run ends
  abbrev pub Scripts : LineSet → StoreOn D → StoreOn D → Stream → Stream → Ended → Type 0
  Scripts set start store input output ended = (served : Result ServedKeys ServeFault) × EndsCounting disk set start store input output served
      × EndsOver disk (λ way. MatchResult served (λ _. way ≡ Ok tt) (λ fault. way ≡ Err (StreamFault fault))) start store ended

  -- over a net: which bytes a connection still gives, and which it has taken
  module _ {S : Type 0} (remaining contents : S → Option (List ℕ)) where
    -- the lines of one connection were answered, all or up to a fault of the connection
    abbrev pub ServesNext : StoreOn D → StoreOn D → Type 0
    ServesNext start store = ((result : Served) × HasServedOne disk remaining contents start store result)
        ⊎ ((fault : ServeFault) × StopsServingOne disk remaining contents start store fault)

    -- those of so many connections, one after the other, each over a store that works
    abbrev pub ServesEach : ℕ → StoreOn D → StoreOn D → Type 0
    ServesEach zero start store = store ≡ start
    ServesEach (suc count) start store = (before : StoreOn D) × ServesEach count start before
        × (before.failed ≡ false) × ServesNext before store

    -- those of so many connections; or of fewer, as the store failed, or none further was had, of which no contract says more
    abbrev pub ServesConnections : ℕ → StoreOn D → StoreOn D → Ended → Type 0
    ServesConnections count start store ended = (served : ℕ) × (served ≤ count) × ServesEach served start store
        × EndsOver disk (λ way. MatchResult way (λ _. served ≡ count) (λ fault. (served < count) × (fault ≡ StreamFault Accept)))
        start store ended

-- no contract can say which bytes a connection gives, or has taken
abbrev pub unknown : TcpStream → Option (List ℕ)
unknown connection = None

-- there is no listener at the port, and the store is as it was; or so many connections were served
abbrev pub ServesPort : ℕ → ClubStore → ClubStore → Ended → Type 0
ServesPort count start store ended =
    ((ended ≡ Err (System Listener)) × (store ≡ start)) ⊎ ServesConnections file_disk unknown unknown count start store ended
