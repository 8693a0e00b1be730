use Rattle.results_tests.proofs.tests.results.exports.expect_exports.Goals as goal

pub event_object_text-requires : goal.event_object_text-requires
event_object_text-requires g c = rw c.in_ok-results.ensures c.requires.field
