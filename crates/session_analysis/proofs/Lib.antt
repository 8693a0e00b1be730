-- Lemmas of what is found of a session.
mod OneByOne
