-- The plan that each row makes, by the sites of the clean relation prefix of u and of the member of its family that v begins with.
-- Those of rows 6 and 7 are made by positions alone (`plan6` and `plan7` of `changes`).
use Rattle.std.specs.Prelude.{ℕ, ◌-◌, min, false, cond, ◌&&◌, ◌||◌, List, eqb, length, get_or}
use Rattle.words.specs.Words.{Word, is_empty}
use Rattle.sites.specs.declared.Site.{Site}
use Rattle.changes.specs.declared.Changes.{Changes}
use Rattle.asked.specs.declared.Round.{Round}
use Rattle.asked.specs.declared.Round.TheVariants.{End, Next}
use Rattle.changes.specs.Changes.{cut_by, put_both, mark_after, rest_at, plan8}

-- row 1
unfoldable pub plan1 : Word → Word → Word → Round Changes
plan1 u v p = End (is_empty u && (is_empty v && is_empty p))

-- row 2: u and v lose a letter, the mark m letters
unfoldable pub drop_one : ℕ → Round Changes
drop_one m = Next (record { u = cut_by 1; v = cut_by 1; mark = cut_by m })

-- row 2, where u and v begin with x: the mark loses a letter if it has one
unfoldable pub mark_drop : ℕ → Word → Round Changes
mark_drop x p = cond (is_empty p || eqb (get_or p 0 0) x) (drop_one (min 1 (length p))) (End false)

-- row 2, where u begins with x and v with y
unfoldable pub letter_drop : ℕ → ℕ → Word → Round Changes
letter_drop x y p = cond (eqb x y) (mark_drop x p) (End false)

-- row 2
unfoldable pub plan2 : Word → Word → Word → Round Changes
plan2 u v p = letter_drop (get_or u 0 0) (get_or v 0 0) p

-- row 4, with the tail at z
unfoldable pub plan4 : Site → Site → Site → ℕ → Round Changes
plan4 s t z k = put_both (s.stop - s.start) z (t.stop - t.start) k

-- row 5
unfoldable pub plan5 : List ℕ → Site → Word → Round Changes
plan5 text s p = Next (record { u = cut_by (s.tail - s.start); v = cut_by (s.tail - s.start); mark = mark_after text s p })

-- row 8, where the last l letters of both Z are the same
unfoldable pub plan8_of : List ℕ → Site → Site → ℕ → Word → Word → Word → Round Changes
plan8_of text s t l u v p = cond (rest_at text s l u && rest_at text t l v) (plan8 s t l (length p)) (End false)
