use Rattle.bridge_club.proofs.run_words.Goals as goal

pub returns-clause-done : goal.returns-clause-done
returns-clause-done g c = λ is. (c.club_texts.result, c.club_texts.ensures, c.run_words_with.ensures.done is)

pub returns-clause-fault : goal.returns-clause-fault
returns-clause-fault g c = λ is. (c.club_texts.result, c.club_texts.ensures, c.run_words_with.ensures.fault is)

pub returns-clause-no_session : goal.returns-clause-no_session
returns-clause-no_session g c = λ is. (c.club_texts.result, c.club_texts.ensures, c.run_words_with.ensures.no_session is)
