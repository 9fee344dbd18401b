-- What plans are made of, by the sites of the clean relation prefix of u and of the member of its family that v begins with: changes, plans by positions alone, and the rests of tails.
use Rattle.std.specs.Prelude.{ℕ, ◌-◌, Bool, cond, List, length, drop}
use Rattle.words.specs.Words.{Word, is_prefix, common_suffix, part}
use Rattle.sites.specs.declared.Site.{Site}
use Rattle.changes.specs.declared.Change.{Change}
use Rattle.changes.specs.declared.Changes.{Changes}
use Rattle.asked.specs.declared.Round.{Round}
use Rattle.asked.specs.declared.Round.TheVariants.{Next}

-- a change that only cuts
unfoldable pub cut_by : ℕ → Change
cut_by n = record { from = 0; to = 0; cut = n }

-- a change that puts the Z of the relation word at s in the place of n letters
unfoldable pub tail_by : Site → ℕ → Change
tail_by s n = record { from = s.tail; to = s.stop; cut = n }

-- the tail at z takes the place of m letters of u and of l letters of v, and the mark loses k letters
unfoldable pub put_both : ℕ → Site → ℕ → ℕ → Round Changes
put_both m z l k = Next (record { u = tail_by z m; v = tail_by z l; mark = cut_by k })

-- the mark after row 5
unfoldable pub mark_after : List ℕ → Site → Word → Change
mark_after text s p = cond (is_prefix p (part text s.start s.middle)) (cut_by (length p)) (tail_by s (length p))

-- row 6
unfoldable pub plan6 : Site → Site → ℕ → Round Changes
plan6 s t k = Next (record { u = cut_by (s.tail - s.start); v = tail_by s (t.stop - t.start); mark = cut_by k })

-- row 7
unfoldable pub plan7 : Site → Site → ℕ → Round Changes
plan7 s t k = Next (record { u = tail_by t (s.stop - s.start); v = cut_by (t.tail - t.start); mark = cut_by k })

-- the length of the common suffix of the Z at s and the Z at t
unfoldable pub shared_suffix : List ℕ → Site → Site → ℕ
shared_suffix text s t = common_suffix (part text s.tail s.stop) (part text t.tail t.stop)

-- the letters between the X and Y at s and the last l letters of its Z follow in w
unfoldable pub rest_at : List ℕ → Site → ℕ → Word → Bool
rest_at text s l w = is_prefix (part text s.tail (s.stop - l)) (drop (s.tail - s.start) w)

-- row 8, where it goes on; the last l letters of both Z are the same
unfoldable pub plan8 : Site → Site → ℕ → ℕ → Round Changes
plan8 s t l k = Next (record { u = cut_by (s.stop - l - s.start); v = cut_by (t.stop - l - t.start); mark = record { from = s.stop - l; to = s.stop; cut = k } })
