-- The least word of a given word, behind a piece or behind nothing, by the house table of ranks (document 01, "The least equal run" and "Taking a front off").
use Rattle.std.specs.Prelude.{ℕ, List, []}
use Rattle.words.specs.Words.{Word}
use Rattle.least.specs.Order.{house_rank}
use Rattle.least.specs.Writing.{Found, word_of, least_behind}

-- the least congruent word of u under relation words B in families, letters by the house table: what the rounds write from the empty mark
unfoldable pub least_for : List Word → (ℕ → ℕ) → Word → Word
least_for B family u = word_of (least_behind B family house_rank [] u)

-- the least word behind a piece p: what the rounds write from the mark p, or that there is none
abbrev pub least_from : List Word → (ℕ → ℕ) → Word → Word → Found
least_from B family p u = least_behind B family house_rank p u
