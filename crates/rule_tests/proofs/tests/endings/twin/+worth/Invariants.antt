use Rattle.rule_tests.proofs.tests.endings.twin.+worth.Given as goal

abbrev pub decreases-worth : goal.decreases-worth
decreases-worth l = l.cards_left
