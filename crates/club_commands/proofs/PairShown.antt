-- Pages over two disks.
use Rattle.std.proofs.Common.{◌≡◌, ◌&&◌, Bool, Option, true, ◌⊎◌, inl, inr, sym, ap, subst, ◌∙◌}
use Rattle.bridge_results.specs.ShownPairs.{Names}
use Rattle.command_line.specs.declared.command.WebHost.{WebHost}
use Rattle.club_disk.specs.Stored.{ClubStore}
use Rattle.evening_commands.specs.People.{people_text}
use Rattle.line_text.specs.Streams.{Stream}
use Rattle.session_pair.specs.Joining.{IsOne}
use Rattle.session_pair.specs.declared.joining.Judged.{Judged}
use Rattle.pair_pages.specs.Pair.{are_settled, pair_of}
use Rattle.pair_pages.specs.declared.disk_names.DiskNames.{DiskNames}
use Rattle.pair_pages.specs.declared.pair_server.PairServer.{PairServer}
use Rattle.session_store.specs.Pair.{standing_of}
use Rattle.session_store.specs.declared.standing.PairStanding.{PairStanding}
use Rattle.table_pages.specs.Answered.{is_settled}
use Rattle.table_pages.specs.Site.{Site}
use Rattle.table_pages.specs.declared.page_texts.PageTexts.{PageTexts}
use Rattle.club_commands.specs.Ended.{Ended}
use Rattle.club_commands.specs.PairWeb.{ServerOver, pair_ended_by, IsBegun, IsNothingShown, ShowsPairAt, ShowsJoinedWith}
use Rattle.club_commands.specs.Web.{site_at, IsUnshown}
use Rattle.club_commands.proofs.Shown.{settled_store}

-- stores that work and have nothing pending are settled
pub settled_pair : (v w : ClubStore) (stopped : Bool) → IsOne v w → are_settled (pair_of v w stopped) ≡ true
settled_pair v w stopped one =
    ap (λ (b : Bool). b && is_settled w.failed w.pending) (settled_store v one.0 one.2) ∙ ap (λ (b : Bool). true && b) (settled_store w one.1 one.3)

-- how pages ended is by the pair as it was last
pub ended_at : {D E : Type 0} (server last : ServerOver D E) (stopped : Bool) (standing : Option PairStanding) (disk_first has_clock : Bool) (ended : Ended)
    → server ≡ last → stopped ≡ server.stopped → standing ≡ standing_of server.first.failed server.second.failed
    → ended ≡ pair_ended_by stopped standing disk_first has_clock
    → ended ≡ pair_ended_by last.stopped (standing_of last.first.failed last.second.failed) disk_first has_clock
ended_at {D} {E} server last stopped standing disk_first has_clock ended same stops stands is =
    is ∙ ap (λ (b : Bool). pair_ended_by b standing disk_first has_clock) (stops ∙ ap (λ (p : ServerOver D E). p.stopped) same)
    ∙ ap (λ (x : Option PairStanding). pair_ended_by last.stopped x disk_first has_clock)
    (stands ∙ ap (λ (p : ServerOver D E). standing_of p.first.failed p.second.failed) same)

-- pages were shown over these stores at the site of the program and the words
pub joined_shown : (texts : PageTexts) (web : WebHost) (names : Names) (disks : DiskNames) (judged : Judged) (v w : ClubStore) (site : Site)
    (begun start last : PairServer ClubStore ClubStore) (output : Stream) (ended : Ended)
    → site ≡ site_at texts web (people_text names v.state.configuration.pairs) → start ≡ begun → IsBegun disks v w begun
    → IsNothingShown (IsUnshown web) output ended ⊎ ShowsPairAt judged site start last output ended
    → ShowsJoinedWith texts web output ended names disks judged v w
joined_shown texts web names disks judged v w site begun start last output ended at same begins (inl none) = inl none
joined_shown texts web names disks judged v w site begun start last output ended at same begins (inr shown) =
    inr (site, start, last, at, subst (λ (p : PairServer ClubStore ClubStore). IsBegun disks v w p) (sym same) begins, shown)
