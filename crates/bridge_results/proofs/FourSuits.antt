-- The rows of the four suits.
use Rattle.std.proofs.Common.{◌≡◌, ℕ, List, ◌++◌, append_assoc, append-nil}
use Rattle.std.specs.Prelude.{flat_map}
use Rattle.bridge_cards.specs.declared.suit.Suit.{Suit}
use Rattle.bridge_cards.specs.declared.suit.Suit.TheVariants.{Clubs, Diamonds, Hearts, Spades}
use Rattle.bridge_results.specs.Diagram.{suits}

-- four rows, one after another
pub four_rows : (f : Suit → List ℕ) (old a b c new : List ℕ) → a ≡ old ++ f Spades → b ≡ a ++ f Hearts → c ≡ b ++ f Diamonds → new ≡ c ++ f Clubs → new ≡ old ++ flat_map f suits
four_rows f old a b c new spades hearts diamonds clubs = rw (clubs, diamonds, hearts, spades) (simp (append_assoc, append-nil))
