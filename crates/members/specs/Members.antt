-- The members of a family: which of them has the mark in its X and comes first in the dictionary, which one is chosen, and what the given word from a place on is.
use Rattle.std.specs.Prelude.{ℕ, Bool, cond, ◌&&◌, ◌||◌, not, List, eqb, leb, ltb, length, drop}
use Rattle.words.specs.Search.{least}
use Rattle.words.specs.Words.{Word, is_prefix, part}
use Rattle.overlap.specs.Cuts.{x_of, xy_of, z_of}
use Rattle.congruence.specs.Rows.{active, marked_by_any}
use Rattle.least.specs.Order.{before, house_rank}
use Rattle.least.specs.Writing.{clean_before}
use Rattle.sites.specs.declared.Site.{Site}

-- the X and Y at s come before those at t
unfoldable pub first_at : List ℕ → Site → Site → Bool
first_at text s t = before house_rank (part text s.start s.tail) (part text t.start t.tail)

-- p is a prefix of the X of member j, and its X and Y come before those of the best member so far, or there is none yet
unfoldable pub beats : List Word → Word → ℕ → ℕ → Bool
beats B p best j = is_prefix p (x_of B j) && (leb (length B) best || before house_rank (xy_of B j) (xy_of B best))

-- the better one of the two
unfoldable pub better : List Word → Word → ℕ → ℕ → ℕ
better B p best j = cond (beats B p best j) j best

-- the chosen member where t is the first that the mark allows, another than i, and b tells whether Z of i is possible
unfoldable pub settled : List Word → ℕ → ℕ → Word → ℕ → Bool → ℕ
settled B n i p t b = cond b t (cond (is_prefix p (x_of B i)) i n)

-- the word from a place on does not begin with p, and p is a prefix of the X of some member of i's family
unfoldable pub applies : List Word → (ℕ → ℕ) → Word → ℕ → Word → ℕ → Bool
applies B family given i p from = not (is_prefix p (drop from given)) && marked_by_any B family i p

-- relation word c is another than i and j, and w is active for its Z
unfoldable pub active_apart : List Word → ℕ → ℕ → Word → ℕ → Bool
active_apart B i j w c = not (eqb c i) && (not (eqb c j) && active B (z_of B c) w)

-- the first member of i's family, other than i and j, for whose Z w is active, or the number of relation words
unfoldable pub other_carrier : List Word → (ℕ → ℕ) → ℕ → ℕ → Word → ℕ
other_carrier B family i j w = least (length B) (λ c. eqb (family i) (family c) && active_apart B i j w c)

-- i comes before c, and w is active for its Z
unfoldable pub carries_first : List Word → ℕ → Word → ℕ → Bool
carries_first B i w c = ltb i c && active B (z_of B i) w

-- text[at..to] is a prefix of the given word from k on, and no clean relation prefix begins in it
unfoldable pub quiet : List ℕ → List Word → Word → ℕ → ℕ → ℕ → Bool
quiet text B given at to k = is_prefix (part text at to) (drop k given) && not (clean_before B (drop k given) (length (part text at to)))
