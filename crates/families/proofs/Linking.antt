-- The links from each member of a family to the next, made from the last word down.
use Prim.Native.Nat.{ℕ, ◌+◌, ◌*◌, ◌-◌, ◌≤◌, ◌<◌}
use mathlib.Core.List.{List}
use mathlib.Core.Logic.{by_cases}
use mathlib.Core.Path.{◌≡◌, sym, ap, ◌∙◌, subst}
use native.Mathlib.Omega.{arith}
use native.Mathlib.Decide.{ℕ_discrete}
use borrow.Author.Rules.{rules}
use lib.ListN.{length, set, length-set}
use lib.Seq.{get_or-set_same, get_or-set_other}
use Rattle.words.specs.Families.{families_after}
use Rattle.layout.specs.Places.{side_cell, family_cell, next_from, next_cell, first_from}
use Rattle.layout.specs.Families.{sides_in, family_at, next_of}
use Rattle.layout.proofs.Cells.{sides_same, families_same}
use Rattle.families.specs.Joining.{KeptOutside, Alone, Groupable, Separate, AllJoined}
use Rattle.families.specs.Grouping.{linked_at, Linkable, MembersUnlinked, MembersLinked, GroupsMade}
use Rattle.families.proofs.Kept.{kept_refl, kept_set, kept_trans, kept_less}
use Rattle.families.proofs.Joining.{number_low, number_lowest}

-- words from i on are linked, and each number below i leads to the lowest of those that has it as its family
pub record Links (family next : ℕ → ℕ) (n i : ℕ) : Type 0 where
  pub most : (g : ℕ) → g < n → next g ≤ n
  pub ahead : (g : ℕ) → g < i → i ≤ next g
  pub ahead_kin : (g : ℕ) → g < i → next g < n → family (next g) ≡ g
  pub ahead_none : (g k : ℕ) → g < i → i ≤ k → k < next g → family k ≡ g → ⊥
  pub later : (k : ℕ) → i ≤ k → k < n → k < next k
  pub kin : (k : ℕ) → i ≤ k → k < n → next k < n → family (next k) ≡ family k
  pub none : (k m : ℕ) → i ≤ k → k < n → k < m → m < next k → family m ≡ family k → ⊥

-- where no word is linked, every link leads behind the last word
links_start : (family next : ℕ → ℕ) (n : ℕ) → ((g : ℕ) → g < n → next g ≡ n) → Links family next n n
links_start family next n e =
    record {
      most = λ g h. omega (arith, e g h);
      ahead = λ g h. omega (arith, e g h);
      ahead_kin = λ g h l. absurd (omega (arith, e g h, l));
      ahead_none = λ g k h a b f. absurd (omega (arith, e g h, a, b));
      later = λ k a b. absurd (omega (arith, a, b));
      kin = λ k a b. absurd (omega (arith, a, b));
      none = λ k m a b. absurd (omega (arith, a, b));
    }

-- one word more: it leads where its family led, and its family to it
module _ (family next next' : ℕ → ℕ) (n j : ℕ) (s : Links family next n (j + 1)) (there : j < n) (low : family j ≤ j)
    (own : next' j ≡ next (family j)) (lead : (family j ≡ j → ⊥) → next' (family j) ≡ j) (same : (k : ℕ) → (k ≡ j → ⊥) → (k ≡ family j → ⊥) → next' k ≡ next k) where
  -- a number below j that is the family of j, or another
  below : (P : ℕ → Type 0) → (next' (family j) ≡ j → P (family j)) → ((g : ℕ) → (g ≡ family j → ⊥) → g < j → next' g ≡ next g → P g) → (g : ℕ) → g < j → P g
  below P a b g h = by_cases (ℕ_discrete g (family j))
      (λ e. subst P (sym e) (a (lead (λ d. omega (arith, d, e, h)))))
      (λ e. b g e h (same g (λ d. omega (arith, d, h)) e))

  -- j itself, or a word behind it
  above : (P : ℕ → Type 0) → P j → ((k : ℕ) → j + 1 ≤ k → next' k ≡ next k → P k) → (k : ℕ) → j ≤ k → P k
  above P a b k h = by_cases (ℕ_discrete k j)
      (λ e. subst P (sym e) a)
      (λ e. b k (omega (arith, e, h)) (same k e (λ d. omega (arith, d, low, e, h))))

  -- the words from j on are linked
  links_more : Links family next' n j
  links_more =
      record {
        most = λ g h. by_cases (ℕ_discrete g j)
            (λ e. subst (λ (x : ℕ). next' x ≤ n) (sym e) (omega (arith, own, s.most (family j) (omega (arith, low, there)))))
            (λ e. by_cases (ℕ_discrete g (family j))
            (λ d. subst (λ (x : ℕ). next' x ≤ n) (sym d) (omega (arith, lead (λ c. e (d ∙ c)), there)))
            (λ d. omega (arith, same g e d, s.most g h)));
        ahead = below (λ g. j ≤ next' g) (λ e. omega (arith, e)) (λ g d h e. omega (arith, e, s.ahead g (omega (arith, h))));
        ahead_kin = below (λ g. next' g < n → family (next' g) ≡ g)
            (λ e l. ap family e)
            (λ g d h e l. ap family e ∙ s.ahead_kin g (omega (arith, h)) (omega (arith, e, l)));
        ahead_none = λ g k h a b f. below (λ g. k < next' g → family k ≡ g → ⊥)
            (λ e c d. omega (arith, e, c, a))
            (λ g d h e c f. by_cases (ℕ_discrete k j)
            (λ z. d (sym f ∙ ap family z))
            (λ z. s.ahead_none g k (omega (arith, h)) (omega (arith, a, z)) (omega (arith, e, c)) f))
            g h b f;
        later = λ k a. above (λ k. k < n → k < next' k)
            (λ b. omega (arith, own, s.ahead (family j) (omega (arith, low))))
            (λ k c e b. omega (arith, e, s.later k c b))
            k a;
        kin = λ k a. above (λ k. k < n → next' k < n → family (next' k) ≡ family k)
            (λ b c. ap family own ∙ s.ahead_kin (family j) (omega (arith, low)) (omega (arith, own, c)))
            (λ k c e b d. ap family e ∙ s.kin k c b (omega (arith, e, d)))
            k a;
        none = λ k m a. above (λ k. k < n → k < m → m < next' k → family m ≡ family k → ⊥)
            (λ b c d f. s.ahead_none (family j) m (omega (arith, low)) (omega (arith, c)) (omega (arith, own, d)) f)
            (λ k c e b d f. s.none k m c b d (omega (arith, e, f)))
            k a;
      }

-- the stores of one word
module _ (table : List ℕ) (i : ℕ) (a : Linkable table i) where
  pub link_cell : (v : ℕ) (p : ℕ) → next_cell i < length (set table p v)
  link_cell v p = simp length-set (omega (arith, a.word, a.room))

  module _ (f : ℕ) (e : f ≡ family_at table i) where
    module _ (x : ℕ) (d : x ≡ next_of table f) where
      pub link_next_small : x < 65536
      link_next_small = omega (arith, d, ap (next_of table) e, a.small)

      pub link_stores : (v w : ℕ) → v ≡ i → w ≡ x → set (set table (next_cell f) v) (next_cell i) w ≡ linked_at table i
      link_stores v w g h = rw (h, g, d, e)

pub ruleset stores = (link_cell, link_next_small, link_stores, rules)

-- the words from i on are linked
pub record Linking (table₀ : List ℕ) (n i : ℕ) (table : List ℕ) : Type 0 where
  pub unlinked : MembersUnlinked table₀ n
  pub upto : i ≤ n
  pub kept : KeptOutside next_from first_from table₀ table
  pub links : Links (family_at table₀) (next_of table) n i

pub linking_start : (table : List ℕ) (n : ℕ) → MembersUnlinked table n → Linking table n n table
linking_start table n u = record { unlinked = u; upto = omega arith; kept = kept_refl _ _ table; links = links_start _ _ n u.unlinked }

module _ (table₀ : List ℕ) (n i : ℕ) (table : List ℕ) (s : Linking table₀ n i table) where
  -- links leave the numbers of families
  family_kept : (k : ℕ) → k < n → family_at table k ≡ family_at table₀ k
  family_kept k h = s.kept.before (family_cell k) (omega (arith, h, s.unlinked.countable.few))

  module _ (h : 0 < i) where
    abbrev j : ℕ
    j = i - 1

    there : j < n
    there = omega (arith, h, s.upto)

    low : family_at table j ≤ j
    low = omega (arith, family_kept j there, s.unlinked.low j there)

    pub linking_word : Linkable table j
    linking_word =
        record {
          room = s.kept.long ∙ s.unlinked.countable.room;
          word = omega (arith, there, s.unlinked.countable.few);
          family = low;
          small = omega (arith, s.links.most (family_at table j) (omega (arith, low, there)), s.unlinked.countable.few);
        }

    -- the two stores do what `links_more` asks
    linking_linked : Linking table₀ n j (linked_at table j)
    linking_linked =
        let few = s.unlinked.countable.few in
        let room = s.kept.long ∙ s.unlinked.countable.room in
        let f = family_at table j in
        let e = family_kept j there in
        let first = set table (next_cell f) j in
        let z : i ≡ j + 1 = omega (arith, h) in
        record {
          unlinked = s.unlinked;
          upto = omega (arith, s.upto);
          kept =
              kept_set (next_cell j) _ (kept_set (next_cell f) j s.kept (omega arith) (omega (arith, low, there, few))) (omega arith)
              (omega (arith, there, few));
          links = links_more (family_at table₀) (next_of table) (next_of (linked_at table j)) n j
              (subst (Links (family_at table₀) (next_of table) n) z s.links) there (s.unlinked.low j there)
              (get_or-set_same first (next_cell j) (next_of table f) 0 (simp length-set (omega (arith, there, few, room))) ∙ ap (next_of table) e)
              (λ d. ap (next_of (linked_at table j)) (sym e)
              ∙ get_or-set_other first (next_cell j) (next_cell f) (next_of table f) 0 (λ c. d (sym e ∙ omega (arith, c)))
              ∙ get_or-set_same table (next_cell f) j 0 (omega (arith, low, there, few, room)))
              (λ k c d. get_or-set_other first (next_cell j) (next_cell k) (next_of table f) 0 (λ x. c (omega (arith, x)))
              ∙ get_or-set_other table (next_cell f) (next_cell k) j 0 (λ x. d (omega (arith, x, e))));
        }

    pub linking_more : (table' : List ℕ) → table' ≡ linked_at table j → Linking table₀ n j table'
    linking_more table' e = rw e linking_linked

  pub linking_end : i ≤ 0 → MembersLinked table₀ n table
  linking_end h =
      let u = s.unlinked in
      let l = s.links in
      record {
        kept = s.kept;
        linked = record {
          low = λ k b. omega (arith, family_kept k b, u.low k b);
          lowest = λ k b.
              ap (family_at table) (family_kept k b) ∙ family_kept (family_at table₀ k) (omega (arith, u.low k b, b)) ∙ u.lowest k b ∙ sym (family_kept k b);
          later = λ k b. l.later k (omega (arith, h)) b;
          kin = λ k b c. family_kept (next_of table k) c ∙ l.kin k (omega (arith, h)) b c ∙ sym (family_kept k b);
          none = λ k m b c d e f. l.none k m (omega (arith, h)) b c d (sym (family_kept m e) ∙ f ∙ family_kept k b);
        };
      }

pub ruleset linkings = (linking_start, linking_word, linking_more, linking_end, rules)

-- families and links
module _ (table : List ℕ) (n relations : ℕ) (g : Groupable table n relations) where
  module _ (table₁ : List ℕ) (a : Alone table n table₁) where
    pub group_separate : Separate table₁ n relations
    group_separate =
        record {
          groupable = record {
            countable = record { few = g.countable.few; room = a.kept.long ∙ g.countable.room };
            few = g.few;
            known = λ s h. omega (arith, a.kept.before (side_cell s) (omega (arith, h, g.few)), g.known s h);
          };
          own = a.own;
        }

    module _ (table₂ : List ℕ) (b : AllJoined table₁ n relations table₂) where
      pub group_unlinked : MembersUnlinked table₂ n
      group_unlinked =
          record {
            countable = record { few = g.countable.few; room = b.kept.long ∙ a.kept.long ∙ g.countable.room };
            low = number_low (sides_in table₁ (2 * relations)) n relations table₂ b.families;
            lowest = number_lowest (sides_in table₁ (2 * relations)) n relations table₂ b.families;
            unlinked = λ i h. b.kept.behind (next_cell i) (omega arith) ∙ a.unlinked i h;
          }

      pub group_made : (table₃ : List ℕ) → MembersLinked table₂ n table₃ → GroupsMade table n relations table₃
      group_made table₃ m =
          record {
            kept = kept_trans a.kept (kept_trans (kept_less b.kept (omega arith) (omega arith)) (kept_less m.kept (omega arith) (omega arith)));
            families =
                families_same table₂ table₃ n (λ k h l. m.kept.before k (omega (arith, l, g.countable.few))) ∙ b.families
                ∙ ap (λ (S : List ℕ). families_after S n relations) (sides_same table table₁ (2 * relations) (λ k h l. a.kept.before k (omega (arith, l, g.few))));
            linked = m.linked;
          }

pub ruleset groups = (group_separate, group_unlinked, group_made, rules)
