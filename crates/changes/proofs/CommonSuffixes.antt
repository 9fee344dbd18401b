-- The longest common suffix of two parts of the text, counted letter by letter from their ends.
use Prim.Native.Nat.{ℕ, ◌+◌, ◌-◌, ◌≤◌, ◌<◌, min}
use mathlib.Core.Bool.{Bool, true, false}
use mathlib.Core.Logic.{by_cases}
use mathlib.Core.List.{List}
use mathlib.Core.Path.{◌≡◌, sym, ap, ◌∙◌, subst}
use native.Mathlib.Omega.{arith}
use native.Mathlib.Decide.{dec_lt}
use borrow.Author.Rules.{rules}
use lib.ListN.{length, get_or, drop}
use Rattle.words.specs.Words.{is_prefix, last_letters, common_suffix, part}
use Rattle.words.proofs.Searching.{greatest_is}
use Rattle.words.proofs.Tests.{false_of}
use Rattle.words.proofs.Parts.{part_length, part_at, part_drop}
use Rattle.words.proofs.Prefixes.{prefix_at, at_prefix}
use Rattle.sites.specs.declared.Site.{Site}
use Rattle.sites.specs.Sites.{SitesInText}
use Rattle.changes.specs.Asked.{BackRoom, AgreeBack}
use Rattle.changes.specs.Changes.{shared_suffix}

-- the last m letters of a part are a part
last_part : (text : List ℕ) (from to m : ℕ) → from ≤ to → to ≤ length text → m ≤ to - from → last_letters m (part text from to) ≡ part text (to - m) to
last_part text from to m u h l =
    let e : from + (to - from - m) ≡ to - m = omega arith in
    ap (λ k. drop (k - m) (part text from to)) (part_length text from to h) ∙ part_drop text from to (to - from - m) ∙ ap (λ k. part text k to) e

-- the same place from both ends
back : (x m k : ℕ) → m ≤ x → k < m → x - m + k ≡ x - 1 - (m - 1 - k)
back x m k h l = omega arith

less : (m k : ℕ) → k < m → m - 1 - k < m
less m k l = omega arith

forth : (x m k : ℕ) → m ≤ x → k < m → x - 1 - k ≡ x - m + (m - 1 - k)
forth x m k h l = omega arith

-- the first m letters before x and before y agree
pub record Backwards (text : List ℕ) (x y m : ℕ) : Type 0 where
  pub at : (k : ℕ) → k < m → get_or text (x - 1 - k) 0 ≡ get_or text (y - 1 - k) 0

module _ (text : List ℕ) (x y m : ℕ) (hx : x ≤ length text) (hy : y ≤ length text) (mx : m ≤ x) (my : m ≤ y) where
  letter : {i j : ℕ} → i ≡ j → get_or text i 0 ≡ get_or text j 0
  letter e = ap (λ n. get_or text n 0) e

  backwards_prefix : Backwards text x y m → is_prefix (part text (x - m) x) (part text (y - m) y) ≡ true
  backwards_prefix b =
      let lx : length (part text (x - m) x) ≡ m = part_length text (x - m) x hx ∙ omega arith in
      let ly : length (part text (y - m) y) ≡ m = part_length text (y - m) y hy ∙ omega arith in
      at_prefix (part text (x - m) x) (part text (y - m) y) (omega arith)
      (λ k h.
      let q : k < m = omega arith in
      part_at text (x - m) x k (omega arith) ∙ letter (back x m k mx q) ∙ b.at (m - 1 - k) (less m k q) ∙ letter (sym (back y m k my q)) ∙ sym (part_at text (y - m) y k (omega arith)))

  prefix_backwards : is_prefix (part text (x - m) x) (part text (y - m) y) ≡ true → Backwards text x y m
  prefix_backwards f =
      let lx : length (part text (x - m) x) ≡ m = part_length text (x - m) x hx ∙ omega arith in
      record {
        at = λ k h.
            letter (forth x m k mx h) ∙ sym (part_at text (x - m) x (m - 1 - k) (omega arith)) ∙ prefix_at (part text (x - m) x) (part text (y - m) y) f (m - 1 - k) (rw lx (less m k h))
            ∙ part_at text (y - m) y (m - 1 - k) (omega arith) ∙ letter (sym (forth y m k my h));
      }

-- the test of `common_suffix`
abbrev test : List ℕ → Site → Site → ℕ → Bool
test text s t n = is_prefix (last_letters n (part text s.tail s.stop)) (last_letters n (part text t.tail t.stop))

module _ (text : List ℕ) (s t : Site) (h : SitesInText text s t) (m : ℕ) (l : m ≤ min (s.stop - s.tail) (t.stop - t.tail)) where
  test_parts : test text s t m ≡ is_prefix (part text (s.stop - m) s.stop) (part text (t.stop - m) t.stop)
  test_parts =
      rw (last_part text s.tail s.stop m h.own.third h.own.inside (omega arith), last_part text t.tail t.stop m h.other.third h.other.inside (omega arith))

  test_prefix : is_prefix (part text (s.stop - m) s.stop) (part text (t.stop - m) t.stop) ≡ true → test text s t m ≡ true
  test_prefix e = test_parts ∙ e

  prefix_test : test text s t m ≡ true → is_prefix (part text (s.stop - m) s.stop) (part text (t.stop - m) t.stop) ≡ true
  prefix_test e = sym test_parts ∙ e

-- l letters agree, and no more
counted_at : (text : List ℕ) (s t : Site) → SitesInText text s t → (l : ℕ) → l ≤ min (s.stop - s.tail) (t.stop - t.tail) → Backwards text s.stop t.stop l
    → (l < min (s.stop - s.tail) (t.stop - t.tail) → get_or text (s.stop - 1 - l) 0 ≡ get_or text (t.stop - 1 - l) 0 → ⊥) → l ≡ shared_suffix text s t
unfolding shared_suffix common_suffix
counted_at text s t h l w b d =
    let is = h.own.inside in
    let it = h.other.inside in
    let ns = part_length text s.tail s.stop is in
    let nt = part_length text t.tail t.stop it in
    sym (greatest_is (min (length (part text s.tail s.stop)) (length (part text t.tail t.stop))) (test text s t) l (omega arith)
    (λ _. test_prefix text s t h l w (backwards_prefix text s.stop t.stop l is it (omega arith) (omega arith) b))
    (λ k a q. fails k a (omega arith)))
  where
    fails : (k : ℕ) → l < k → k ≤ min (s.stop - s.tail) (t.stop - t.tail) → test text s t k ≡ false
    fails k a q = false_of (test text s t k) (λ e.
        d (omega arith)
        ((prefix_backwards text s.stop t.stop k h.own.inside h.other.inside (omega arith) (omega arith) (prefix_test text s t h k q e)).at l a))

-- l letters before x and before y are compared, of at most `room`
pub record Agreeing (text : List ℕ) (x y room l : ℕ) : Type 0 where
  pub rooms : BackRoom text x y room
  pub within : l ≤ room
  pub agreed : Backwards text x y l

pub agreeing_start : (text : List ℕ) (x y room : ℕ) → BackRoom text x y room → Agreeing text x y room 0
agreeing_start text x y room h = record { rooms = h; within = omega arith; agreed = record { at = λ k l. absurd (omega arith) } }

-- the place of the next letter
module _ (z room l : ℕ) (far : room ≤ z) (h : l < room) where
  pub back_some : 1 ≤ z
  back_some = omega arith

  pub back_far : l ≤ z - 1
  back_far = omega arith

  pub back_at : (text : List ℕ) → z ≤ length text → z - 1 - l < length text
  back_at text i = omega arith

module _ (text : List ℕ) (x y room l : ℕ) (v : Agreeing text x y room l) where
  module _ (h : l < room) where
    pub agreeing_more : get_or text (x - 1 - l) 0 ≡ get_or text (y - 1 - l) 0 → Agreeing text x y room (l + 1)
    agreeing_more e =
        record {
          rooms = v.rooms;
          within = omega arith;
          agreed = record { at = λ k b. by_cases (dec_lt k l) (λ a. v.agreed.at k a) (λ a. let q : l ≡ k = omega arith in subst (λ (m : ℕ). get_or text (x - 1 - m) 0 ≡ get_or text (y - 1 - m) 0) q e) };
        }

    pub agreeing_stop : (get_or text (x - 1 - l) 0 ≡ get_or text (y - 1 - l) 0 → ⊥) → AgreeBack text x y room l
    agreeing_stop d = record { within = v.within; at = v.agreed.at; apart = λ _. d }

  pub agreeing_end : room ≤ l → AgreeBack text x y room room
  agreeing_end h = record { within = omega arith; at = λ k b. v.agreed.at k (omega (arith, v.within)); apart = λ k. absurd (omega arith) }

pub ruleset agreeings = (agreeing_start, agreeing_more, agreeing_stop, back_some, back_far, back_at, agreeing_end, rules)

-- the common suffix of two Z
module _ (text : List ℕ) (s t : Site) (h : SitesInText text s t) where
  pub sites_left : s.tail ≤ s.stop
  sites_left = h.own.third

  pub sites_right : t.tail ≤ t.stop
  sites_right = h.other.third

  module _ (room : ℕ) (e : room ≡ min (s.stop - s.tail) (t.stop - t.tail)) where
    pub back_room : BackRoom text s.stop t.stop room
    back_room =
        let a = h.own.inside in
        let b = h.other.inside in
        record { inside_x = a; inside_y = b; far_x = omega arith; far_y = omega arith }

    pub back_shared : (l : ℕ) → AgreeBack text s.stop t.stop room l → l ≡ shared_suffix text s t
    back_shared l v =
        counted_at text s t h l (let w = v.within in omega arith) (record { at = v.at }) (λ q. v.apart (omega arith))

pub ruleset shared_suffixes = (sites_left, sites_right, back_room, back_shared, rules)
