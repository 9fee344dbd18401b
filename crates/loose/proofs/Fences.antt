-- Common prefixes of two places of a fenced text never cross a fence, so they are the factors that two places of the relation words share.
use Prim.Native.Nat.{ℕ, ◌+◌, ◌-◌, ◌<◌, ◌≤◌}
use mathlib.Core.Bool.{Bool, true, false, ◌&&◌, true≢false, false≢true, and-eq-true_iff}
use mathlib.Core.List.{List}
use mathlib.Core.Logic.{by_cases}
use mathlib.Core.Path.{◌≡◌, refl, sym, ap, ◌∙◌}
use native.Mathlib.Omega.{arith}
use native.Mathlib.Decide.{dec_lt, dec_le, ℕ_discrete}
use borrow.Author.Tests.{eq-eqb, ne_eqb, le-leb, leb-true}
use lib.Dec.{eqb, leb}
use lib.ListN.{length, get_or, take, drop, length-drop}
use lib.Seq.{get_or-take, get_or-drop, length-take-le}
use Rattle.words.specs.Search.{any_below}
use Rattle.words.proofs.Tests.{false_of}
use Rattle.words.proofs.Prefixes.{prefix_at, at_prefix, prefix_length}
use Rattle.words.proofs.Searching.{any_of, any_none}
use Rattle.overlap.specs.Pieces.{word}
use Rattle.overlap.specs.Cuts.{len, twin, piece_at}
use Rattle.layout.specs.Layout.{words_in, start_of, end_of}
use Rattle.layout.proofs.Placed.{words_length, start_bound, end_before, word_length, word_at_lem, owner, place_once, fence_once}
use Rattle.layout.specs.Places.{text_room}
use Rattle.longest.specs.Longest.{shared, longest_at, Bounded}
use Rattle.longest.proofs.Shared.{shared_from_past, shared_fits, shared_at, at_shared, longest_least, longest_found}
use Rattle.loose.specs.Pieces.{Fenced}

module _ (text table : List ℕ) (n : ℕ) (f : Fenced text table n) where
  -- a common prefix with another place stays before the fence
  pub shared_inside : (i p q : ℕ) → i < n → start_of table i ≤ p → p ≤ end_of table i → (q ≡ p → ⊥) → shared text p q ≤ end_of table i - p
  shared_inside i p q h l u ne = by_cases (dec_le (shared text p q) (end_of table i - p)) (λ a. a) (λ a.
      let w = f.whole in
      let fits = shared_fits text p q (omega (arith, a)) in
      let k : ℕ = end_of table i - p in
      let e = shared_at text p q (end_of table i - p) (omega (arith, a)) in
      let b = ap (λ j. get_or text j 0) {x = p + (end_of table i - p)} {y = end_of table i} (omega (arith, u)) in
      let c = f.laid.fence i h in
      let o = fence_once text table n f.laid i (q + (end_of table i - p)) h (omega (arith, fits.1, a, w)) (sym e ∙ b ∙ c) in
      absurd (ne (omega (arith, o, u))))

  pub text_bounded : Bounded text
  text_bounded = record {
    short = λ p q ne. by_cases (dec_lt p (length text))
        (λ l.
        let w = f.whole in
        let r = owner text table n f.laid p n (omega arith) (omega (arith, l, w)) in
        let s = shared_inside r.0 p q r.1 r.2 r.3 (λ g. ne (sym g)) in
        let t = f.laid.short r.0 r.1 in
        omega (arith, s, t, r.2))
        (λ l. let z = shared_from_past text p q (omega (arith, l)) in omega (arith, z));
  }

  pub text_short : length text ≤ text_room
  text_short =
      let b = start_bound text table n f.laid n (omega arith) in
      let w = f.whole in
      let k = f.laid.few in
      omega (arith, b, w, k)

  -- the longest piece at a place of word i ends in word i
  pub longest_inside : (i p : ℕ) → i < n → start_of table i ≤ p → p ≤ end_of table i → longest_at text p ≤ end_of table i - p
  longest_inside i p h l u = by_cases (dec_le (longest_at text p) (end_of table i - p)) (λ a. a) (λ a.
      let w = f.whole in
      let g = end_before text table n f.laid i h in
      let r = longest_found text p (end_of table i - p + 1) (omega (arith, u, g, w)) (omega arith) (omega (arith, a)) in
      let s = shared_inside i p r.0 h l u r.2 in
      absurd (omega (arith, s, r.3)))

-- factors of relation words are common prefixes of places of the text
module _ (text table : List ℕ) (n : ℕ) (f : Fenced text table n) (i p m : ℕ) (h : i < n) (u : start_of table i + p + m ≤ end_of table i) (some : 0 < m) where
  -- the factor itself
  factor_length : length (take m (drop p (word (words_in text table n) i))) ≡ m
  factor_length =
      let l = word_length text table n f.laid i h in
      let d = length-drop p (word (words_in text table n) i) in
      length-take-le m (drop p (word (words_in text table n) i)) (omega (arith, l, d, u))

  factor_at : (k : ℕ) → k < m → get_or (take m (drop p (word (words_in text table n) i))) k 0 ≡ get_or text (start_of table i + p + k) 0
  factor_at k l =
      get_or-take m (drop p (word (words_in text table n) i)) k 0 l
      ∙ get_or-drop p (word (words_in text table n) i) k 0
      ∙ word_at_lem text table n f.laid i (p + k) h (omega (arith, l, u))
      ∙ ap (λ j. get_or text j 0) (omega arith)

  -- a twin of it is a common prefix
  twin_shared : (j q : ℕ) → j < n → q < len (words_in text table n) j → twin (words_in text table n) i p m j q ≡ true → m ≤ longest_at text (start_of table i + p)
  unfolding twin
  twin_shared j q g k e =
      let r = simp and-eq-true_iff at e in
      let c = prefix_length (take m (drop p (word (words_in text table n) i))) (drop q (word (words_in text table n) j)) r.1 in
      let d = length-drop q (word (words_in text table n) j) in
      let l = word_length text table n f.laid j g in
      let w = f.whole in
      let ei = end_before text table n f.laid i h in
      let ej = end_before text table n f.laid j g in
      let fl = factor_length in
      let inside : start_of table j + q + m ≤ end_of table j = omega (arith, c, d, l, fl, k, some) in
      let s = at_shared text (start_of table i + p) (start_of table j + q) m (omega (arith, u, ei, w)) (omega (arith, inside, ej, w))
      (λ t v. sym (factor_at t v) ∙ prefix_at (take m (drop p (word (words_in text table n) i))) (drop q (word (words_in text table n) j)) r.1 t (omega (arith, fl, v))
      ∙ get_or-drop q (word (words_in text table n) j) t 0
      ∙ word_at_lem text table n f.laid j (q + t) g (omega (arith, inside, v))
      ∙ ap (λ b. get_or text b 0) (omega arith)) in
      let ne : start_of table j + q ≡ start_of table i + p → ⊥ = λ same.
      let o = place_once text table n f.laid i j p q h g (omega (arith, u)) (omega (arith, inside)) same in
      let x = eq-eqb i j o.0 in
      let y = eq-eqb p q o.1 in
      absurd (false≢true (rw (x, y) at r.0)) in
      let t = longest_least text (start_of table i + p) (start_of table j + q) (omega (arith, u, ei, w, some)) (omega (arith, inside, ej, w, some)) ne in
      omega (arith, s, t)

  -- a common prefix with another place is a twin
  shared_twin : (q : ℕ) → q < length text → (q ≡ start_of table i + p → ⊥) → m ≤ shared text (start_of table i + p) q
      → any_below (length (words_in text table n)) (λ j. any_below (len (words_in text table n) j) (twin (words_in text table n) i p m j)) ≡ true
  unfolding twin
  shared_twin q k ne s =
      let w = f.whole in
      let r = owner text table n f.laid q n (omega arith) (omega (arith, k, w)) in
      let j = r.0 in
      let fits = shared_fits text (start_of table i + p) q (omega (arith, s, some)) in
      let back = shared_inside text table n f r.0 q (start_of table i + p) r.1 r.2 r.3 (λ g. ne (sym g)) in
      let turned = at_shared text q (start_of table i + p) m (omega (arith, fits.1, s)) (omega (arith, fits.0, s))
      (λ t v. sym (shared_at text (start_of table i + p) q t (omega (arith, s, v)))) in
      let l = word_length text table n f.laid r.0 r.1 in
      let inside : q + m ≤ end_of table r.0 = omega (arith, back, turned, some, r.3) in
      let fl = factor_length in
      let d = length-drop (q - start_of table r.0) (word (words_in text table n) r.0) in
      let fr = at_prefix (take m (drop p (word (words_in text table n) i))) (drop (q - start_of table r.0) (word (words_in text table n) r.0)) (omega (arith, fl, d, l, inside, r.2))
      (λ t v. factor_at t (omega (arith, fl, v)) ∙ shared_at text (start_of table i + p) q t (omega (arith, s, fl, v))
      ∙ ap (λ b. get_or text b 0) (omega (arith, r.2))
      ∙ sym (word_at_lem text table n f.laid r.0 (q - start_of table r.0 + t) r.1 (omega (arith, inside, fl, v, r.2)))
      ∙ sym (get_or-drop (q - start_of table r.0) (word (words_in text table n) r.0) t 0)) in
      let other : (eqb i r.0 && eqb p (q - start_of table r.0)) ≡ false = apart r.0 q r.2 ne in
      any_of (length (words_in text table n)) _ r.0 (rw (words_length text table n) r.1)
      (any_of (len (words_in text table n) r.0) (twin (words_in text table n) i p m r.0) (q - start_of table r.0) (omega (arith, l, inside, some, r.2)) (rw (other, fr)))
    where
      apart : (j q : ℕ) → start_of table j ≤ q → (q ≡ start_of table i + p → ⊥) → (eqb i j && eqb p (q - start_of table j)) ≡ false
      apart j q l ne = by_cases (ℕ_discrete i j)
          (λ e. by_cases (ℕ_discrete p (q - start_of table j))
          (λ d. let c = ap (start_of table) e in absurd (ne (omega (arith, c, d, l))))
          (λ d. rw (eq-eqb i j e) (ne_eqb p (q - start_of table j) d)))
          (λ e. rw (ne_eqb i j e))

-- the test for a piece is a comparison with the longest piece at its place
pub piece_longest : (text table : List ℕ) (n : ℕ) → Fenced text table n → (i p m : ℕ) → i < n → start_of table i + p + m ≤ end_of table i
    → piece_at (words_in text table n) i p m ≡ leb m (longest_at text (start_of table i + p))
unfolding piece_at
piece_longest text table n f i p m h u = by_cases (ℕ_discrete m 0)
    (λ e. rw (eq-eqb m 0 e, e) (sym (le-leb 0 (longest_at text (start_of table i + p)) (omega arith))))
    (λ e. rw (ne_eqb m 0 e) (go (omega (arith, e)) (leb m (longest_at text (start_of table i + p))) refl))
  where
    go : 0 < m → (t : Bool) → leb m (longest_at text (start_of table i + p)) ≡ t
        → any_below (length (words_in text table n)) (λ j. any_below (len (words_in text table n) j) (twin (words_in text table n) i p m j)) ≡ t
    go some true e =
        let w = f.whole in
        let ei = end_before text table n f.laid i h in
        let r = longest_found text (start_of table i + p) m (omega (arith, u, some, ei, w)) some (leb-true m (longest_at text (start_of table i + p)) e) in
        shared_twin text table n f i p m h u some r.0 r.1 r.2 r.3
    go some false e = any_none _ _ (λ j g. any_none _ _ (λ q k. false_of (twin (words_in text table n) i p m j q) (λ t.
        let l = words_length text table n in
        let c = twin_shared text table n f i p m h u some j q (omega (arith, g, l)) k t in
        absurd (true≢false (sym (le-leb m (longest_at text (start_of table i + p)) c) ∙ e)))))
