-- The making of the index: words are counted by their first letters, so every place exists, and every word is listed.
use Prim.Native.Nat.{ℕ, ◌+◌, ◌-◌, ◌≤◌, ◌<◌}
use mathlib.Core.Bool.{Bool, true, false}
use mathlib.Core.List.{List}
use mathlib.Core.Path.{◌≡◌, sym, ap, ◌∙◌, subst}
use mathlib.Core.Logic.{by_cases}
use native.Mathlib.Omega.{arith}
use native.Mathlib.Decide.{dec_lt, ℕ_discrete}
use lib.Dec.{eqb, ltb}
use borrow.Author.Rules.{rules}
use borrow.Author.Tests.{lt-ltb, le-ltb, eq-eqb, ne_eqb, eqb-true, eqb-false}
use lib.ListN.{length, get_or, set, length-set}
use lib.Seq.{get_or-set_other, get_or-set_same}
use mir.Syntax.{w64}
use mir.Val.{Fits}
use Rattle.words.specs.Words.{common_prefix}
use Rattle.words.proofs.Parts.{part_length}
use Rattle.words.proofs.Commons.{common_within}
use Rattle.layout.specs.Places.{letters_bound, start_cell, first_cell, order_cell, shared_cell}
use Rattle.layout.specs.Layout.{start_of, end_of, word_at, first_of, order_of, shared_of, KnownWord, WordPair}
use Rattle.layout.proofs.Placed.{end_inside, row_inside, word_span}
use Rattle.insertion.specs.Inserting.{first_letter, count, SamePositions, Lists, Gathering, NextOfLetter, Gathered}
use Rattle.insertion.proofs.Counting.{count_bound, count_up, count_same, count_yes, count_no, count_none, count_all, count_split}
use Rattle.insertion.proofs.Keeping.{kept_refl, kept_trans, kept_set, start_kept, laid_kept, word_kept}
use Rattle.insertion.proofs.Inserting.{place_left, kept_below, lists_kept}
use Rattle.listing.specs.Listing.{Unlisted, NextWord, NextLetter, Neighbours, AllListed, IndexMade}

-- the first letter of a word
module _ (text t : List ℕ) (k : ℕ) (g : KnownWord text t k) where
  pub letter_start : start_cell k < length t
  letter_start = let r = row_inside text t g.number g.laid k g.known in omega (arith, r)

  pub letter_inside : (at : ℕ) → at ≡ start_of t k → at < length text
  letter_inside at e =
      let i = end_inside text t g.number g.laid k g.known in
      let s = g.laid.some k g.known in
      omega arith

  pub letter_test : (at : ℕ) → at ≡ start_of t k → (x : ℕ) → x ≡ get_or text at 0 → (c : ℕ) → eqb x c ≡ eqb (first_letter text t k) c
  letter_test at e x f c = rw (f, e)

pub ruleset letters = (letter_start, letter_inside, letter_test, rules)

-- a word is looked at, and listed if it begins with c
module _ (text t : List ℕ) (n c from j k : ℕ) (g : NextWord text t n c from j k) where
  pub look_word : KnownWord text t k
  look_word = record { number = n; laid = g.gathering.lists.laid; known = g.known }

  module _ (r : Bool) (e : r ≡ eqb (first_letter text t k) c) where
    pub look_yes : r ≡ true → NextOfLetter text t n c from j k
    look_yes h = record { gathering = g.gathering; known = g.known; begins = eqb-true (first_letter text t k) c (sym e ∙ h) }

    pub look_fits : r ≡ true → Fits w64 (j + 1)
    look_fits h =
        let l = place_left text t n c from j k (look_yes h) in
        record { fits = omega (arith, g.gathering.lists.laid.few) }

    pub look_no : r ≡ false → Gathered text t n c from (k + 1) t j
    look_no h =
        let d : first_letter text t k ≡ c → ⊥ = eqb-false (first_letter text t k) c (sym e ∙ h) in
        let b = count_no (λ i. eqb (first_letter text t i) c) k (ne_eqb (first_letter text t k) c d) in
        record {
          kept = kept_refl t;
          gathering = record {
            lists = g.gathering.lists;
            letter = g.gathering.letter;
            within = omega (arith, g.known);
            counted = omega (arith, g.gathering.counted);
            known = g.gathering.known;
            found = λ i l z. by_cases (dec_lt i k) (λ a. g.gathering.found i a z)
                (λ a. absurd (d (subst (λ (v : ℕ). first_letter text t v ≡ c) (omega arith) z)));
          };
        }

pub ruleset looks = (look_word, look_yes, look_fits, look_no, rules)

-- the words of one letter, one after the other
pub gathered_start : (text t : List ℕ) (n c from : ℕ) → NextLetter text t n c from → Gathered text t n c from 0 t from
unfolding count
gathered_start text t n c from b =
    record {
      kept = kept_refl t;
      gathering = record {
        lists = b.lists;
        letter = b.letter;
        within = omega arith;
        counted = omega arith;
        known = λ i h l. absurd (omega arith);
        found = λ i h e. absurd (omega arith);
      };
    }

-- where all words are listed under earlier letters, none begins with c
pub gathered_all : (text t : List ℕ) (n c from : ℕ) → NextLetter text t n c from → from ≡ n → Gathered text t n c from n t from
gathered_all text t n c from b e =
    let here : ℕ → Bool = λ i. eqb (first_letter text t i) c in
    let l = b.lists.counted in
    let s = count_split (first_letter text t) c n in
    let m = count_bound (λ i. ltb (first_letter text t i) (c + 1)) n in
    record {
      kept = kept_refl t;
      gathering = record {
        lists = b.lists;
        letter = b.letter;
        within = omega arith;
        counted = omega (arith, e, l, s, m);
        known = λ i h g. absurd (omega arith);
        found = λ i h z.
            let y = count_yes here i (eq-eqb (first_letter text t i) c z) in
            let u = count_up here (i + 1) (n - (i + 1)) in
            let w = ap (count here) {x = i + 1 + (n - (i + 1))} {y = n} (omega (arith, h)) in
            absurd (omega (arith, e, l, s, m, y, u, w));
      };
    }

module _ (text t₀ t : List ℕ) (n c from j k : ℕ) (g : Gathered text t₀ n c from k t j) where
  pub gathered_next : k < n → NextWord text t n c from j k
  gathered_next h = record { gathering = g.gathering; known = h }

  pub gathered_more : (u : List ℕ) (i : ℕ) → Gathered text t n c from (k + 1) u i → Gathered text t₀ n c from (k + 1) u i
  gathered_more u i a = record { kept = kept_trans t₀ t u g.kept a.kept; gathering = a.gathering }

  pub gathered_end : n ≤ k → Gathered text t₀ n c from n t j
  gathered_end h = let e : k ≡ n = omega (arith, g.gathering.within) in subst (λ (v : ℕ). Gathered text t₀ n c from v t j) e g

pub ruleset gathers = (gathered_start, gathered_all, gathered_next, gathered_more, gathered_end, rules)

-- the letters below c are done
pub record Listed (text t₀ t : List ℕ) (n c j : ℕ) : Type 0 where
  pub kept : SamePositions t₀ t
  pub lists : Lists text t n c j

pub listed_start : (text t : List ℕ) (n : ℕ) → Lists text t n 0 0 → Listed text t t n 0 0
listed_start text t n l = record { kept = kept_refl t; lists = l }

-- the end of a letter's list is written
module _ (text t : List ℕ) (n c from j : ℕ) (g : Gathering text t n c from j n) where
  end_place : first_cell (c + 1) < length t
  end_place = omega (arith, g.letter, g.lists.room)

  kept_ended : SamePositions t (set t (first_cell (c + 1)) j)
  kept_ended = kept_set t t (first_cell (c + 1)) j (kept_refl t) (omega arith)

  letter_ended : (i : ℕ) → i < n → first_letter text (set t (first_cell (c + 1)) j) i ≡ first_letter text t i
  letter_ended i h = ap (λ a. get_or text a 0) (start_kept t (set t (first_cell (c + 1)) j) kept_ended i (omega (arith, g.lists.laid.few)))

  first_ended : (x : ℕ) → x ≤ c → first_of (set t (first_cell (c + 1)) j) x ≡ first_of t x
  first_ended x h = get_or-set_other t (first_cell (c + 1)) (first_cell x) j 0 (λ z. omega arith)

  last_ended : first_of (set t (first_cell (c + 1)) j) (c + 1) ≡ j
  last_ended = get_or-set_same t (first_cell (c + 1)) j 0 end_place

  order_ended : (i : ℕ) → order_of (set t (first_cell (c + 1)) j) i ≡ order_of t i
  order_ended i = get_or-set_other t (first_cell (c + 1)) (order_cell i) j 0 (λ z. omega (arith, g.letter))

  counted_ended : j ≡ count (λ i. ltb (first_letter text (set t (first_cell (c + 1)) j) i) (c + 1)) n
  counted_ended =
      let s = count_split (first_letter text t) c n in
      let e = count_same (λ i. ltb (first_letter text (set t (first_cell (c + 1)) j) i) (c + 1)) (λ i. ltb (first_letter text t i) (c + 1)) n (λ i h. rw (letter_ended i h)) in
      omega (arith, g.counted, g.lists.counted)

  listed_ended : (x : ℕ) → x < c + 1 → (first_of (set t (first_cell (c + 1)) j) x ≤ first_of (set t (first_cell (c + 1)) j) (x + 1)) × (first_of (set t (first_cell (c + 1)) j) (x + 1) ≤ j)
  listed_ended x h =
      by_cases (dec_lt x c)
      (λ a.
      let l = g.lists.listed x a in
      let y = first_ended x (omega arith) in
      let z = first_ended (x + 1) (omega arith) in
      omega (arith, g.counted))
      (λ a.
      let e : c ≡ x = omega arith in
      let y = first_ended c (omega arith) in
      let w = last_ended in
      subst (λ (v : ℕ). (first_of (set t (first_cell (c + 1)) j) v ≤ first_of (set t (first_cell (c + 1)) j) (v + 1)) × (first_of (set t (first_cell (c + 1)) j) (v + 1) ≤ j)) e
      (omega (arith, g.counted, g.lists.last)))

  known_ended : (i : ℕ) → i < j → order_of (set t (first_cell (c + 1)) j) i < n
  known_ended i h =
      let o = order_ended i in
      by_cases (dec_lt i from)
      (λ a. let k = g.lists.known i a in omega arith)
      (λ a. let k = g.known i (omega arith) h in omega arith)

  found_ended : (k : ℕ) → k < n → first_letter text t k < c + 1
      → (i : ℕ) × (first_of (set t (first_cell (c + 1)) j) (first_letter text t k) ≤ i) × (i < first_of (set t (first_cell (c + 1)) j) (first_letter text t k + 1)) × (order_of (set t (first_cell (c + 1)) j) i ≡ k)
  found_ended k h l =
      by_cases (dec_lt (first_letter text t k) c)
      (λ a.
      let f = g.lists.found k h a in
      let y = first_ended (first_letter text t k) (omega arith) in
      let z = first_ended (first_letter text t k + 1) (omega arith) in
      (f.0, omega (arith, f.1), omega (arith, f.2), order_ended f.0 ∙ f.3))
      (λ a.
      let e : c ≡ first_letter text t k = omega arith in
      let f = g.found k h (sym e) in
      let y = first_ended c (omega arith) in
      let w = last_ended in
      subst (λ (v : ℕ). (i : ℕ) × (first_of (set t (first_cell (c + 1)) j) v ≤ i) × (i < first_of (set t (first_cell (c + 1)) j) (v + 1)) × (order_of (set t (first_cell (c + 1)) j) i ≡ k)) e
      (f.0, omega (arith, f.1, g.lists.last), omega (arith, f.2), order_ended f.0 ∙ f.3))

  lists_ended : Lists text (set t (first_cell (c + 1)) j) n (c + 1) j
  lists_ended =
      record {
        laid = laid_kept t (set t (first_cell (c + 1)) j) kept_ended text n g.lists.laid;
        room = length-set t (first_cell (c + 1)) j ∙ g.lists.room;
        letters = omega (arith, g.letter);
        counted = counted_ended;
        last = last_ended;
        listed = listed_ended;
        known = known_ended;
        found = λ k h l.
            let e = letter_ended k h in
            rw e (found_ended k h (omega arith));
      }

module _ (text t₀ t : List ℕ) (n c j : ℕ) (g : Listed text t₀ t n c j) where
  pub listed_next : c < letters_bound → NextLetter text t n c j
  listed_next h = record { lists = g.lists; letter = h }

  module _ (u : List ℕ) (i : ℕ) (a : Gathered text t n c j n u i) where
    pub listed_place : first_cell (c + 1) < length u
    listed_place = omega (arith, a.gathering.letter, a.gathering.lists.room)

    pub listed_number : i < 65536
    listed_number =
        let s = count_split (first_letter text u) c n in
        let b = count_bound (λ i. ltb (first_letter text u i) (c + 1)) n in
        omega (arith, a.gathering.counted, a.gathering.lists.counted, a.gathering.lists.laid.few)

    pub listed_more : (v : ℕ) → v ≡ i → Listed text t₀ (set u (first_cell (c + 1)) v) n (c + 1) i
    listed_more v e =
        rw e
        (record {
          kept = kept_trans t₀ u (set u (first_cell (c + 1)) i) (kept_trans t₀ t u g.kept a.kept) (kept_ended text u n c j i a.gathering);
          lists = lists_ended text u n c j i a.gathering;
        })

  pub listed_end : letters_bound ≤ c → AllListed text t₀ n t
  listed_end h =
      let e : c ≡ letters_bound = omega (arith, g.lists.letters) in
      let l = subst (λ (v : ℕ). Lists text t n v j) e g.lists in
      let b = count_all (λ i. ltb (first_letter text t i) letters_bound) n
      (λ i x. lt-ltb (first_letter text t i) letters_bound (g.lists.laid.letters i (start_of t i) x (omega arith) (g.lists.laid.some i x))) in
      let z : j ≡ n = l.counted ∙ b in
      record { kept = g.kept; lists = subst (λ (v : ℕ). Lists text t n letters_bound v) z l }

pub ruleset listings = (listed_start, listed_next, listed_place, listed_number, listed_more, listed_end, rules)

-- what neighbours share
module _ (text t : List ℕ) (j : ℕ) (g : Neighbours text t j) where
  pub neighbour_before : order_cell (j - 1) < length t
  neighbour_before = omega (arith, g.below, g.lists.laid.few, g.lists.room)

  pub neighbour_here : order_cell j < length t
  neighbour_here = omega (arith, g.below, g.lists.laid.few, g.lists.room)

  pub neighbour_left : (h : ℕ) → h ≡ order_of t (j - 1) → h < g.number
  neighbour_left h e = let a = g.lists.known (j - 1) (omega (arith, g.below)) in omega (arith, e, a)

  pub neighbour_right : (k : ℕ) → k ≡ order_of t j → k < g.number
  neighbour_right k f = let b = g.lists.known j g.below in omega (arith, f, b)

  pub neighbour_pair : (h k : ℕ) → h < g.number → k < g.number → WordPair text t h k
  neighbour_pair h k a b = record { number = g.number; laid = g.lists.laid; first = a; second = b }

  pub neighbour_share : (h : ℕ) → h ≡ order_of t (j - 1) → (k : ℕ) → k ≡ order_of t j → (r : ℕ) → r ≡ common_prefix (word_at text t h) (word_at text t k)
      → r ≡ common_prefix (word_at text t (order_of t (j - 1))) (word_at text t (order_of t j))
  neighbour_share h e k f r c = rw (← e, ← f) c

pub ruleset neighbours = (neighbour_before, neighbour_here, neighbour_left, neighbour_right, neighbour_pair, neighbour_share, rules)

-- what words share with the one before is written below place j
pub record Sharing (text t₀ t : List ℕ) (n j : ℕ) : Type 0 where
  pub kept : SamePositions t₀ t
  pub lists : Lists text t n letters_bound n
  pub some : 0 < j
  pub alike : (i : ℕ) → 0 < i → i < j → i < n → shared_of t i ≡ common_prefix (word_at text t (order_of t (i - 1))) (word_at text t (order_of t i))

pub share_start : (text t : List ℕ) (n : ℕ) → Lists text t n letters_bound n → Sharing text t t n 1
share_start text t n l = record { kept = kept_refl t; lists = l; some = omega arith; alike = λ i h x y. absurd (omega arith) }

module _ (text t₀ t : List ℕ) (n j : ℕ) (g : Sharing text t₀ t n j) where
  pub share_neighbours : j < n → Neighbours text t j
  share_neighbours h = record { number = n; lists = g.lists; some = g.some; below = h }

  pub share_place : j < n → shared_cell j < length t
  share_place h = omega (arith, g.lists.laid.few, g.lists.room)

  module _ (h : j < n) (m : ℕ) (e : m ≡ common_prefix (word_at text t (order_of t (j - 1))) (word_at text t (order_of t j))) where
    pub share_number : m < 65536
    share_number =
        let w = common_within (word_at text t (order_of t (j - 1))) (word_at text t (order_of t j)) in
        let b = g.lists.known j h in
        let l = part_length text (start_of t (order_of t j)) (end_of t (order_of t j)) (word_span text t n g.lists.laid (order_of t j) b).inside in
        let s = g.lists.laid.short (order_of t j) b in
        omega arith

    same_below : (p : ℕ) → p < order_cell n → get_or (set t (shared_cell j) m) p 0 ≡ get_or t p 0
    same_below p l = get_or-set_other t (shared_cell j) p m 0 (λ z. omega (arith, g.lists.laid.few))

    long_same : length (set t (shared_cell j) m) ≡ length t
    long_same = length-set t (shared_cell j) m

    word_same : (k : ℕ) → k < n → word_at text (set t (shared_cell j) m) k ≡ word_at text t k
    word_same k l =
        word_kept t (set t (shared_cell j) m) (kept_below text t (set t (shared_cell j) m) n letters_bound n g.lists long_same same_below) text k (omega (arith, g.lists.laid.few))

    alike_more : (i : ℕ) → 0 < i → i < j + 1 → i < n
        → shared_of (set t (shared_cell j) m) i ≡ common_prefix (word_at text t (order_of t (i - 1))) (word_at text t (order_of t i))
    alike_more i a b c =
        by_cases (ℕ_discrete j i)
        (λ z.
        subst (λ (v : ℕ). shared_of (set t (shared_cell j) m) v ≡ common_prefix (word_at text t (order_of t (v - 1))) (word_at text t (order_of t v))) z
        (get_or-set_same t (shared_cell j) m 0 (share_place h) ∙ e))
        (λ z. get_or-set_other t (shared_cell j) (shared_cell i) m 0 (λ y. z (omega arith)) ∙ g.alike i a (omega arith) c)

    shared_more : Sharing text t₀ (set t (shared_cell j) m) n (j + 1)
    shared_more =
        record {
          kept = kept_set t₀ t (shared_cell j) m g.kept (omega arith);
          lists = lists_kept text t (set t (shared_cell j) m) n letters_bound n g.lists long_same same_below;
          some = omega arith;
          alike = λ i a b c.
              rw (same_below (order_cell (i - 1)) (omega arith), same_below (order_cell i) (omega arith), word_same (order_of t (i - 1)) (g.lists.known (i - 1) (omega arith)), word_same (order_of t i) (g.lists.known i c))
              (alike_more i a b c);
        }

    pub share_more : (v : ℕ) → v ≡ m → Sharing text t₀ (set t (shared_cell j) v) n (j + 1)
    share_more v d = rw d shared_more

  pub share_end : n ≤ j → IndexMade text t₀ n t
  share_end h =
      record {
        kept = g.kept;
        indexed = record {
          room = g.lists.room;
          listed = g.lists.listed;
          known = g.lists.known;
          found = λ k l. g.lists.found k l (g.lists.laid.letters k (start_of t k) l (omega arith) (g.lists.laid.some k l));
          alike = λ i a b. g.alike i a (omega arith) b;
        };
      }

pub ruleset sharings = (share_start, share_neighbours, share_place, share_number, share_more, share_end, rules)

-- the whole: the first list begins at place 0, the words are listed, and what neighbours share is written
pub made_room : (text t : List ℕ) (n : ℕ) → Unlisted text t n → first_cell 0 < length t
made_room text t n u = omega (arith, u.room)

pub made_start : (text t : List ℕ) (n : ℕ) → Unlisted text t n → Lists text (set t (first_cell 0) 0) n 0 0
made_start text t n u =
    let k = kept_set t t (first_cell 0) 0 (kept_refl t) (omega arith) in
    record {
      laid = laid_kept t (set t (first_cell 0) 0) k text n u.laid;
      room = length-set t (first_cell 0) 0 ∙ u.room;
      letters = omega arith;
      counted = sym (count_none (λ i. ltb (first_letter text (set t (first_cell 0) 0) i) 0) n (λ i h. le-ltb (first_letter text (set t (first_cell 0) 0) i) 0 (omega arith)));
      last = get_or-set_same t (first_cell 0) 0 0 (omega (arith, u.room));
      listed = λ x h. absurd (omega arith);
      known = λ i h. absurd (omega arith);
      found = λ i h l. absurd (omega arith);
    }

pub made_lists : (text t : List ℕ) (n : ℕ) (u : List ℕ) → AllListed text t n u → Lists text u n letters_bound n
made_lists text t n u a = a.lists

pub made_index : (text t : List ℕ) (n : ℕ) (u v : List ℕ) → Unlisted text t n → AllListed text (set t (first_cell 0) 0) n u → IndexMade text u n v → IndexMade text t n v
made_index text t n u v l a b =
    record { kept = kept_trans t u v (kept_trans t (set t (first_cell 0) 0) u (kept_set t t (first_cell 0) 0 (kept_refl t) (omega arith)) a.kept) b.kept; indexed = b.indexed }

pub ruleset makings = (made_room, made_start, made_lists, made_index, rules)
