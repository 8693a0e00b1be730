-- What a server does, round by round.
use Rattle.std.specs.Prelude.{◌≡◌, ◌⊎◌, ◌≤◌, ◌<◌, ℕ, zero, suc, List, Bool, true, Option, Result, OnOk}
use Rattle.std.specs.declared.io.Error.{Error}
use Rattle.std.specs.declared.net.ip_addr.IpAddr.{IpAddr}
use Rattle.std.specs.declared.time.Instant.{Instant}
use Rattle.slab.specs.Slab.{get}
use Rattle.http.specs.declared.request.Request.{Request}
use Rattle.http_server.specs.declared.response.Response.{Response}
use Rattle.web_loop.specs.declared.clients.Clients.{Clients}
use Rattle.web_loop.specs.Connected.{released}
use Rattle.web_loop.specs.Room.{Admits, AdmitsNone}
use Rattle.web_loop.specs.Round.{TakesRound}

-- so many came, one after another, or were not let in: their socket failed, or memory was refused
abbrev pub LetsIn : {T : Type 0} → Instant → ℕ → Clients T → Clients T → Type 0
LetsIn now zero old new = new ≡ old
LetsIn {T} now (suc count) old new =
    (mid : Clients T) × (stream : T) × (address : IpAddr) × LetsIn now count old mid × (Admits stream address now mid new ⊎ AdmitsNone address mid new)

-- So many came, or were not let in: 128 at most.
pub record LetsInSome {T : Type 0} (now : Instant) (old new : Clients T) : Type 0 where
  pub count : ℕ
  pub few : count ≤ 128
  pub came : LetsIn now count old new

-- No answer is put off any longer, and nothing else changed.
pub record Releases {T : Type 0} (old new : Clients T) : Type 0 where
  pub each : (key : ℕ) → get new.connected key ≡ released (get old.connected key)
  pub rest : new ≡ record old { connected = new.connected }

module _ {S T : Type 0} (lasts : S → Bool) (answers : S → Request (List ℕ) → Response → S → Type 0) (stays : S → List ℕ → Type 0) (wish : S → Option (List ℕ))
    (waits offences : S → ℕ) (remaining contents : T → Option (List ℕ)) where
  -- A round, while the service lasts: some are let in, and each client has its turn.
  pub record IsRound (clients after : Clients T) (old new : S) : Type 0 where
    pub goes_on : lasts old ≡ true
    pub now : Instant
    pub let_in : Clients T
    pub came : LetsInSome now clients let_in
    pub took : TakesRound answers stays wish waits offences remaining contents now let_in after old new

  -- so many, one after another
  abbrev pub Rounds : ℕ → Clients T → Clients T → S → S → Type 0
  Rounds zero clients after old new = (after ≡ clients) × (new ≡ old)
  Rounds (suc count) clients after old new = (mid : Clients T) × (between : S) × Rounds count clients mid old between × IsRound mid after between new

  -- A round at the end: nobody is let in, and what is put off before it or in it is so no longer.
  pub record IsLastRound (clients after : Clients T) (old new : S) : Type 0 where
    pub now : Instant
    pub free : Clients T
    pub turned : Clients T
    pub releases : Releases clients free
    pub took : TakesRound answers stays wish waits offences remaining contents now free turned old new
    pub frees : Releases turned after

  -- so many, one after another
  abbrev pub LastRounds : ℕ → Clients T → Clients T → S → S → Type 0
  LastRounds zero clients after old new = (after ≡ clients) × (new ≡ old)
  LastRounds (suc count) clients after old new = (mid : Clients T) × (between : S) × LastRounds count clients mid old between × IsLastRound mid after between new

  -- A server took rounds, and then those at the end, at least one unless the clock failed.
  pub record Serves (result : Result (Unit {0}) Error) (clients after : Clients T) (old new : S) : Type 0 where
    pub rounds : ℕ
    pub last : ℕ
    pub mid : Clients T
    pub between : S
    pub served : Rounds rounds clients mid old between
    pub sent : LastRounds last mid after between new
    pub ends : OnOk result (0 < last)
