-- Lines that are served as their bytes come.
use Rattle.std.proofs.Common.{◌≡◌, ℕ, ◌+◌, ◌∙◌, Bool, true, false, List, [], ◌∷◌, ◌++◌, length, take, map, Option, Result, Ok, Err, refl, sym, ap, subst, arith, append_assoc, append-nil, length-append}
use Rattle.std.specs.Prelude.{nat_lt}
use Rattle.std.specs.List.{list_all}
use Rattle.std.proofs.lemmas.Bool.{ltb-true, ltb-false, lt-ltb}
use Rattle.std.proofs.KnownBytes.{Appends-nil, Appends-trans}
use Rattle.std.specs.Io.KnownBytes.{Appends}
use Rattle.std.proofs.lemmas.List.{take_all, length-take-le}
use Rattle.sector_disk.specs.Disk.{Disk}
use Rattle.session_store.specs.Value.{StoreValue}
use Rattle.session_rules.specs.declared.action.Action.{Action}
use Rattle.session_rules.specs.State.{SessionValue}
use Rattle.line_text.specs.Lines.{complete_lines, is_long, is_within_line}
use Rattle.line_text.specs.Streams.{Stream, between}
use Rattle.line_text.proofs.CompleteLines.{lines_none}
use Rattle.table_server.specs.declared.asked.Asked.{Asked}
use Rattle.line_replies.specs.declared.fault.ServeFault.{ServeFault}
use Rattle.table_server.specs.declared.line_service.LineService.{LineService}
use Rattle.table_server.specs.Answered.{AskAll}
use Rattle.table_server.specs.declared.line_set.LineSet.{LineSet}
use Rattle.table_server.specs.Asked.{AsksIn, AsksBy}
use Rattle.table_server.specs.Hearing.{Hears, Hearing, HearsOn, IsCutShort}
use Rattle.line_replies.specs.LineFeed.{kept_lines}
use Rattle.table_server.specs.Serving.{Serves}
use Rattle.table_server.specs.WrongKeys.{wrong_keys}
use Rattle.table_server.proofs.ServesLemmas.{stopped_after}

-- what is kept of a line asks for what the line does
kept_asks : (set : LineSet) (line : List ℕ) (asked : Asked) → AsksIn set (take 129 line) asked → AsksIn set line asked
kept_asks set line asked asks = on (nat_lt 128 (length line)) refl
  where
    on : (b : Bool) → nat_lt 128 (length line) ≡ b → AsksIn set line asked
    on true long =
        let more = ltb-true 128 (length line) long in
        let count : length (take 129 line) ≡ 129 = length-take-le 129 line (omega (arith, more)) in
        let kept : is_long (take 129 line) ≡ true = lt-ltb 128 (length (take 129 line)) (omega (arith, count)) in
        subst (λ b. AsksBy set b line asked) (sym long) (subst (λ b. AsksBy set b (take 129 line) asked) kept asks)
    on false short =
        let few = ltb-false 128 (length line) short in
        subst (λ kept. AsksIn set kept asked) (take_all 129 line (omega (arith, few))) asks

-- and so for all lines
pub kept_ask_all : (set : LineSet) (lines : List (List ℕ)) (asked : List Asked) → AskAll set (map (take 129) lines) asked → AskAll set lines asked
kept_ask_all set [] [] ask = ask
kept_ask_all set [] (one ∷ more) ask = ask
kept_ask_all set (line ∷ lines) [] ask = ask
kept_ask_all set (line ∷ lines) (one ∷ more) ask = (kept_asks set line one ask.0, kept_ask_all set lines more ask.1)

-- the complete lines of bytes ask for what those that are kept do
pub hears_asks : (set : LineSet) (bytes begun : List ℕ) (asked : List Asked) → Hears set bytes asked begun → AskAll set (complete_lines bytes) asked
hears_asks set bytes begun asked h = kept_ask_all set (complete_lines bytes) asked h.asks

-- lines and one more
ask_one : (set : LineSet) (lines : List (List ℕ)) (asked : List Asked) (line : List ℕ) (one : Asked) → AskAll set lines asked → AsksIn set line one → AskAll set (lines ++ line ∷ []) (asked ++ one ∷ [])
ask_one set [] [] line one ask asks = (asks, tt)
ask_one set [] (other ∷ more) line one ask asks = absurd ask
ask_one set (first ∷ lines) [] line one ask asks = absurd ask
ask_one set (first ∷ lines) (other ∷ more) line one ask asks = (ask.0, ask_one set lines more line one ask.1 asks)

-- nothing is kept of a line that has begun
kept_begun : (begun : List ℕ) → list_all is_within_line begun ≡ true → kept_lines (begun ++ []) ≡ []
kept_begun begun within = ap kept_lines (append-nil begun) ∙ ap (map (take 129)) (lines_none begun within)

-- what one byte more adds to the lines
step_lines : (set : LineSet) (bytes begun new : List ℕ) (byte : ℕ) (asked : List Asked) (opt : List (List ℕ)) → Hears set bytes asked begun
    → ((rest : List ℕ) → kept_lines (begun ++ byte ∷ rest) ≡ opt ++ kept_lines (new ++ rest)) → list_all is_within_line new ≡ true
    → kept_lines (bytes ++ byte ∷ []) ≡ kept_lines bytes ++ opt
step_lines set bytes begun new byte asked opt h step within =
    h.joins (byte ∷ []) ∙ ap (λ (more : List (List ℕ)). kept_lines bytes ++ more)
    (step [] ∙ ap (λ (more : List (List ℕ)). opt ++ more) (kept_begun new within) ∙ append-nil opt)

-- one byte more was heard
hears_step : (set : LineSet) (bytes begun new : List ℕ) (byte : ℕ) (asked after : List Asked) (opt : List (List ℕ)) → Hears set bytes asked begun
    → ((rest : List ℕ) → kept_lines (begun ++ byte ∷ rest) ≡ opt ++ kept_lines (new ++ rest)) → list_all is_within_line new ≡ true
    → AskAll set (kept_lines bytes ++ opt) after → Hears set (bytes ++ byte ∷ []) after new
hears_step set bytes begun new byte asked after opt h step within ask =
    let lines = step_lines set bytes begun new byte asked opt h step within in record {
      asks = rw lines ask;
      joins = λ rest.
          ap kept_lines (append_assoc bytes (byte ∷ []) rest) ∙ h.joins (byte ∷ rest)
          ∙ ap (λ (more : List (List ℕ)). kept_lines bytes ++ more) (step rest)
          ∙ sym (append_assoc (kept_lines bytes) opt (kept_lines (new ++ rest)))
          ∙ ap (λ (more : List (List ℕ)). more ++ kept_lines (new ++ rest)) (sym lines);
      within = within;
    }

-- one that completes no line
pub hears_begun : (set : LineSet) (bytes begun new : List ℕ) (byte : ℕ) (asked : List Asked) → Hears set bytes asked begun
    → ((rest : List ℕ) → kept_lines (begun ++ byte ∷ rest) ≡ kept_lines (new ++ rest)) → list_all is_within_line new ≡ true
    → Hears set (bytes ++ byte ∷ []) asked new
hears_begun set bytes begun new byte asked h step within =
    hears_step set bytes begun new byte asked asked [] h step within (rw (append-nil (kept_lines bytes)) h.asks)

-- one that completes a line
pub hears_line : (set : LineSet) (bytes begun new line : List ℕ) (byte : ℕ) (asked : List Asked) (one : Asked) → Hears set bytes asked begun
    → ((rest : List ℕ) → kept_lines (begun ++ byte ∷ rest) ≡ (line ∷ []) ++ kept_lines (new ++ rest)) → list_all is_within_line new ≡ true
    → AsksIn set line one → Hears set (bytes ++ byte ∷ []) (asked ++ one ∷ []) new
hears_line set bytes begun new line byte asked one h step within asks =
    hears_step set bytes begun new byte asked (asked ++ one ∷ []) (line ∷ []) h step within (ask_one set (kept_lines bytes) asked line one h.asks asks)

module _ {D : Type 0} (disk : Disk D) where
  -- a line was answered
  pub heard_line : (start store new : StoreValue D SessionValue Action) (bytes : List ℕ) (old service : LineService) (byte : ℕ) (one : Asked) (written : List ℕ) (writer : Stream) (result : Result (Unit {0}) ServeFault)
      → (h : Hearing disk start bytes store old written) → Hears service.set (bytes ++ byte ∷ []) (h.asked ++ one ∷ []) service.feed
      → Serves disk start (h.asked ++ one ∷ []) new service.held written writer result
      → service.held.served.lines ≡ old.held.served.lines + 1
      → service.wrong_keys ≡ wrong_keys start.state.configuration (h.asked ++ one ∷ [])
      → HearsOn disk start (bytes ++ byte ∷ []) new service written writer result
  heard_line start store new bytes old service byte one written writer (Ok u) h hears serves lines counted = (
    serves.0,
    serves.1,
    record {
      asked = h.asked ++ one ∷ [];
      hears = hears;
      serving = serves.2;
      lines = lines ∙ ap (λ n. n + 1) h.lines ∙ sym (length-append h.asked (one ∷ []));
      counted = counted;
    },
  )
  heard_line start store new bytes old service byte one written writer (Err fault) h hears serves lines counted = (
    serves.0,
    record {
      heard = bytes ++ byte ∷ [];
      unheard = [];
      all = sym (append-nil (bytes ++ byte ∷ []));
      asked = h.asked ++ one ∷ [];
      asks = hears_asks service.set (bytes ++ byte ∷ []) service.feed (h.asked ++ one ∷ []) hears;
      stopped = serves.1;
    },
  )

  -- no line was complete
  pub heard_begun : (start store : StoreValue D SessionValue Action) (bytes : List ℕ) (old service : LineService) (byte : ℕ) (written : List ℕ) (before : Option (List ℕ))
      → (h : Hearing disk start bytes store old written) → Hears service.set (bytes ++ byte ∷ []) h.asked service.feed → service.held ≡ old.held
      → service.wrong_keys ≡ old.wrong_keys
      → HearsOn disk start (bytes ++ byte ∷ []) store service written (between before before) (Ok tt)
  heard_begun start store bytes old service byte written before h hears same keys = (
    [],
    Appends-nil before,
    record {
      asked = h.asked;
      hears = hears;
      serving = rw (append-nil written, same) h.serving;
      lines = rw same h.lines;
      counted = rw keys h.counted;
    },
  )

  -- after what was written whole
  pub hears_after : (start store : StoreValue D SessionValue Action) (bytes : List ℕ) (service : LineService) (written text : List ℕ) (a b c : Option (List ℕ)) (result : Result (Unit {0}) ServeFault)
      → Appends a b text → HearsOn disk start bytes store service (written ++ text) (between b c) result
      → HearsOn disk start bytes store service written (between a c) result
  hears_after start store bytes service written text a b c (Ok u) wrote it = (
    text ++ it.0,
    Appends-trans a b c text it.0 wrote it.1,
    subst (λ all. Hearing disk start bytes store service all) (append_assoc written text it.0) it.2,
  )
  hears_after start store bytes service written text a b c (Err fault) wrote it = let cut = it.1 in (
    it.0,
    record {
      heard = cut.heard;
      unheard = cut.unheard;
      all = cut.all;
      asked = cut.asked;
      asks = cut.asks;
      stopped = stopped_after disk start store cut.asked written text a b c wrote cut.stopped;
    },
  )

  -- of more bytes the first were heard, as a write failed
  pub cut_before : (set : LineSet) (start store : StoreValue D SessionValue Action) (bytes more : List ℕ) (written : List ℕ) (writer : Stream)
      → IsCutShort disk set start bytes store written writer → IsCutShort disk set start (bytes ++ more) store written writer
  cut_before set start store bytes more written writer cut = record {
    heard = cut.heard;
    unheard = cut.unheard ++ more;
    all = ap (λ (xs : List ℕ). xs ++ more) cut.all ∙ append_assoc cut.heard cut.unheard more;
    asked = cut.asked;
    asks = cut.asks;
    stopped = cut.stopped;
  }
