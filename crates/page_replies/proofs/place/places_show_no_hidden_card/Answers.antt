use Rattle.page_replies.proofs.SamePlace.{place_same}
use Rattle.page_replies.proofs.place.places_show_no_hidden_card.Goals as goal

pub returns : goal.returns
returns c = place_same
