-- A question has one answer.
use Rattle.std.specs.Prelude.{ℕ, ◌≡◌, ◌⊎◌, ◌-◌, List, [], ◌∷◌, ◌++◌, codes, map, refl, Option, Some, None, Result, Ok, Err}
use Rattle.std.specs.Option.{option_map}
use Rattle.std.proofs.Common.{sym, ap, ap₂, ◌∙◌, inl, inr}
use Rattle.bridge_cards.specs.Card.{card_text}
use Rattle.bridge_cards.specs.CardSet.{cards_of}
use Rattle.bridge_endings.specs.Ending.{tricks_in}
use Rattle.bridge_endings.specs.EndingValue.{EndingValue}
use Rattle.bridge_endings.specs.Worth.{worth_of}
use Rattle.bridge_session.specs.Ending.{plain_ending, ending_answer}
use Rattle.bridge_ranking.specs.declared.field.Field.{Field}
use Rattle.bridge_ranking.specs.Ranking.{ranking_answer}
use Rattle.bridge_ranking.proofs.OneRanking.{one_ranking}
use Rattle.session_rules.specs.declared.action.PlayId.{PlayId}
use Rattle.session_rules.specs.declared.refused.Refused.{Refused as SessionRefused}
use Rattle.session_rules.specs.declared.view.Trick.{Trick}
use Rattle.session_rules.specs.declared.view.View.{View}
use Rattle.session_rules.specs.See.{PlainTrick, shown_to}
use Rattle.session_rules.specs.State.{SessionValue, director_answer}
use Rattle.session_rules.specs.Views.{ShowSame, plain_seen}
use Rattle.session_rules.proofs.OneView.{one_view}
use Rattle.table_server.specs.declared.asked.Asked.{Asked}
use Rattle.table_server.specs.declared.asked.Asked.TheVariants.{Change, Told, BadLine, LongLine}
use Rattle.table_server.specs.declared.asked.Question.{Question}
use Rattle.table_server.specs.declared.asked.Question.TheVariants.{Sync, See, Rank, Solve, Pbn}
use Rattle.line_replies.specs.declared.short_reply.ShortReply.TheVariants.{Refused}
use Rattle.table_server.specs.Answered.{IsReply, after_asked, AreReplies}
use Rattle.table_server.specs.PbnReply.{pbn_reply}
use Rattle.line_replies.specs.ReplyTexts.{short_text, solved_text, ranking_text}
use Rattle.table_server.specs.Standing.{Standing}
use Rattle.table_server.specs.Told.{Tells, TellsRefusal, TellsView, TellsRanking, TellsWorth}
use Rattle.line_replies.specs.ViewText.{seat_word, hand_or_dash, trick_words, view_text}
use Rattle.table_server.proofs.SameHands.{same_hand_text, same_endings}

-- the words of a trick, by what is seen of it
seen_words : Option PlainTrick → List (List ℕ)
seen_words None = codes "-" ∷ []
seen_words (Some trick) = seat_word trick.leader ∷ map card_text trick.cards

words_seen : (trick : Option Trick) → trick_words trick ≡ seen_words (option_map plain_seen trick)
unfolding seen_words
words_seen None = refl
words_seen (Some trick) = refl

same_words : (one other : Option Trick) → option_map plain_seen one ≡ option_map plain_seen other → trick_words one ≡ trick_words other
same_words one other same = words_seen one ∙ ap seen_words same ∙ sym (words_seen other)

same_dummy : (one other : Option ℕ) → option_map cards_of one ≡ option_map cards_of other → hand_or_dash one ≡ hand_or_dash other
same_dummy None None same = refl
same_dummy None (Some b) same = absurd (cc)
same_dummy (Some a) None same = absurd (cc)
same_dummy (Some a) (Some b) same = same_hand_text a b (let cards : cards_of a ≡ cards_of b = cc in cards)

-- views that show the same have one text
same_view_text : (one other : View) → ShowSame one other → view_text one ≡ view_text other
same_view_text one other same =
    let round = same.round in
    let table = same.table in
    let index = same.index in
    let board = same.board in
    let seat = same.seat in
    let dealer = same.dealer in
    let vulnerability = same.vulnerability in
    let in_play = same.in_play in
    let turn = same.turn in
    let calls_made = same.calls_made in
    let cards_made = same.cards_made in
    let claims_made = same.claims_made in
    let hand = same_hand_text one.hand other.hand same.hand in
    let dummy = same_dummy one.dummy other.dummy same.dummy in
    let calls = same.calls in
    let trick = same_words one.trick other.trick same.trick in
    let last = same_words one.last other.last same.last in
    let tricks_ns = same.tricks_ns in
    let tricks_ew = same.tricks_ew in
    let claim = same.claim in
    cc

one_refusal : {A : Type 0} (answer : Result A SessionRefused) (one other : List ℕ) → TellsRefusal (λ refused. answer ≡ Err refused) one → TellsRefusal (λ refused. answer ≡ Err refused) other → one ≡ other
one_refusal answer one other a b =
    let same : a.0 ≡ b.0 = (let first = a.1 in let second = b.1 in cc) in
    a.2 ∙ ap (λ refused. short_text (Refused refused)) same ∙ sym b.2

-- what is answered is not refused
not_both : {A : Type 0} (answer : Result A SessionRefused) (value : A) (text : List ℕ) → answer ≡ Ok value → TellsRefusal (λ refused. answer ≡ Err refused) text → ⊥
not_both answer value text ok refused = let err = refused.1 in cc

one_see : (s : SessionValue) (key : ℕ) (one other : List ℕ) → TellsView s key one ⊎ TellsRefusal (λ refused. shown_to s key ≡ Err refused) one
    → TellsView s key other ⊎ TellsRefusal (λ refused. shown_to s key ≡ Err refused) other → one ≡ other
one_see s key one other (inl a) (inl b) =
    a.2 ∙ same_view_text a.0 b.0 (one_view s key a.0 b.0 a.1 b.1) ∙ sym b.2
one_see s key one other (inl a) (inr b) = absurd (not_both (shown_to s key) a.1.shown other a.1.allowed b)
one_see s key one other (inr a) (inl b) = absurd (not_both (shown_to s key) b.1.shown one b.1.allowed a)
one_see s key one other (inr a) (inr b) = one_refusal (shown_to s key) one other a b

one_rank : (s : SessionValue) (key : ℕ) (field : Field) (one other : List ℕ) → TellsRanking s key field one ⊎ TellsRefusal (λ refused. ranking_answer s key field ≡ Err refused) one
    → TellsRanking s key field other ⊎ TellsRefusal (λ refused. ranking_answer s key field ≡ Err refused) other → one ≡ other
one_rank s key field one other (inl a) (inl b) =
    a.2 ∙ ap (ranking_text s.configuration.scoring) (one_ranking s key key field a.0 b.0 a.1 b.1) ∙ sym b.2
one_rank s key field one other (inl a) (inr b) = absurd (not_both (ranking_answer s key field) tt other a.1.allowed b)
one_rank s key field one other (inr a) (inl b) = absurd (not_both (ranking_answer s key field) tt one b.1.allowed a)
one_rank s key field one other (inr a) (inr b) = one_refusal (ranking_answer s key field) one other a b

-- the tricks of an ending
abbrev tricks_text : EndingValue → List ℕ
tricks_text ending = solved_text (worth_of ending) (tricks_in ending.hands - worth_of ending)

one_solve : (s : SessionValue) (key : ℕ) (play : PlayId) (cards : ℕ) (one other : List ℕ) → TellsWorth s key play cards one ⊎ TellsRefusal (λ refused. ending_answer s key play cards ≡ Err refused) one
    → TellsWorth s key play cards other ⊎ TellsRefusal (λ refused. ending_answer s key play cards ≡ Err refused) other → one ≡ other
one_solve s key play cards one other (inl a) (inl b) =
    let seen : plain_ending a.0 ≡ plain_ending b.0 = (let first = a.2 in let second = b.2 in cc) in
    a.3 ∙ ap tricks_text (same_endings a.0 b.0 a.1 b.1 seen) ∙ sym b.3
one_solve s key play cards one other (inl a) (inr b) = absurd (not_both (ending_answer s key play cards) (plain_ending a.0) other a.2 b)
one_solve s key play cards one other (inr a) (inl b) = absurd (not_both (ending_answer s key play cards) (plain_ending b.0) one b.2 a)
one_solve s key play cards one other (inr a) (inr b) = one_refusal (ending_answer s key play cards) one other a b

one_pbn : (s : SessionValue) (answer : Result (Unit {0}) SessionRefused) (text one other : List ℕ) → ((answer ≡ Ok tt) × (one ≡ text)) ⊎ TellsRefusal (λ refused. answer ≡ Err refused) one
    → ((answer ≡ Ok tt) × (other ≡ text)) ⊎ TellsRefusal (λ refused. answer ≡ Err refused) other → one ≡ other
one_pbn s answer text one other (inl a) (inl b) = a.1 ∙ sym b.1
one_pbn s answer text one other (inl a) (inr b) = absurd (not_both answer tt other a.0 b)
one_pbn s answer text one other (inr a) (inl b) = absurd (not_both answer tt one b.0 a)
one_pbn s answer text one other (inr a) (inr b) = one_refusal answer one other a b

pub one_answer : (s : SessionValue) (question : Question) (one other : List ℕ) → Tells s question one → Tells s question other → one ≡ other
one_answer s Sync one other a b = a ∙ sym b
one_answer s (See key) one other a b = one_see s key.0 one other a b
one_answer s (Rank key field) one other a b = one_rank s key.0 field one other a b
one_answer s (Solve key play cards) one other a b = one_solve s key.0 play cards one other a b
one_answer s (Pbn key) one other a b = one_pbn s (director_answer s.configuration key.0) (pbn_reply s) one other a b

one_reply : (standing : Standing) (asked : Asked) (one other : List ℕ) → IsReply standing asked one → IsReply standing asked other → one ≡ other
one_reply standing (Change action) one other a b = a ∙ sym b
one_reply standing (Told question) one other a b = one_answer standing.state question one other a b
one_reply standing BadLine one other a b = a ∙ sym b
one_reply standing LongLine one other a b = a ∙ sym b

pub one_text : (standing : Standing) (asked : List Asked) (one other : List ℕ) → AreReplies standing asked one → AreReplies standing asked other → one ≡ other
one_text standing [] one other a b = a ∙ sym b
one_text standing (first ∷ more) one other a b =
    a.4
    ∙ ap₂ (λ (x y : List ℕ). x ++ y) (one_reply standing first a.0 b.0 a.2 b.2) (one_text (after_asked standing first) more a.1 b.1 a.3 b.3)
    ∙ sym b.4
