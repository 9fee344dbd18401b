-- A relation word inserted among the listed words of its letter: what is listed before it, which word goes first, and what is listed with it.
use Rattle.std.specs.Prelude.{ℕ, zero, suc, ◌+◌, ◌-◌, ◌<◌, ◌≤◌, Bool, cond, List, ◌≡◌, eqb, ltb, length, get_or, set}
use Rattle.words.specs.Words.{common_prefix}
use Rattle.layout.specs.Places.{words_most, letters_bound, first_from, order_cell, table_room}
use Rattle.layout.specs.Layout.{start_of, word_at, first_of, order_of, Laid}

-- the first letter of relation word k
abbrev pub first_letter : List ℕ → List ℕ → ℕ → ℕ
first_letter text table k = get_or text (start_of table k) 0

-- how many of the first n numbers pass
unfoldable pub count : (ℕ → Bool) → ℕ → ℕ
count p zero = 0
count p (suc n) = cond (p n) (suc (count p n)) (count p n)

-- relation word k is listed before relation word h under their letter: the letter at which they part decides, and a word's fence is behind all letters
unfoldable pub earlier : List ℕ → List ℕ → ℕ → ℕ → Bool
earlier text table k h =
    let m = common_prefix (word_at text table k) (word_at text table h) in
    ltb (get_or text (start_of table k + m) 0) (get_or text (start_of table h + m) 0)

-- relation word k goes before the word listed at place i - 1
abbrev pub before_listed : List ℕ → List ℕ → ℕ → ℕ → Bool
before_listed text table i k = earlier text table k (order_of table (i - 1))

-- a table with the same positions and numbers of pieces, and perhaps another index
pub record SamePositions (table table' : List ℕ) : Type 0 where
  pub long : length table' ≡ length table
  pub same : (i : ℕ) → i < first_from → get_or table' i 0 ≡ get_or table i 0

-- relation word k seeks its place in the list, and a relation word is listed at place i - 1
pub record Inserting (text table : List ℕ) (i k : ℕ) : Type 0 where
  pub number : ℕ
  pub laid : Laid text table number
  pub room : length table ≡ table_room
  pub some : 1 ≤ i
  pub place : i ≤ words_most
  pub known : k < number
  pub before : order_of table (i - 1) < number

-- there are places i - 1 and i, and a number of two bytes at the first
pub record Movable (table : List ℕ) (i : ℕ) : Type 0 where
  pub some : 1 ≤ i
  pub room : order_cell i < length table
  pub small : order_of table (i - 1) < 65536

-- the word listed at place i - 1 stands at place i too
pub record MovedUp (table : List ℕ) (i : ℕ) (table' : List ℕ) : Type 0 where
  pub some : 1 ≤ i
  pub same : table' ≡ set table (order_cell i) (order_of table (i - 1))

-- the words whose letters are below c are listed, and take j places
pub record Lists (text table : List ℕ) (n c j : ℕ) : Type 0 where
  pub laid : Laid text table n
  pub room : length table ≡ table_room
  pub letters : c ≤ letters_bound
  pub counted : j ≡ count (λ i. ltb (first_letter text table i) c) n
  pub last : first_of table c ≡ j
  pub listed : (x : ℕ) → x < c → (first_of table x ≤ first_of table (x + 1)) × (first_of table (x + 1) ≤ j)
  pub known : (i : ℕ) → i < j → order_of table i < n
  pub found : (k : ℕ) → k < n → first_letter text table k < c
      → (i : ℕ) × (first_of table (first_letter text table k) ≤ i) × (i < first_of table (first_letter text table k + 1)) × (order_of table i ≡ k)

-- besides these, words of the letter c are listed from place `from` on and below j: those among the first k relation words
pub record Gathering (text table : List ℕ) (n c from j k : ℕ) : Type 0 where
  pub lists : Lists text table n c from
  pub letter : c < letters_bound
  pub within : k ≤ n
  pub counted : j ≡ from + count (λ i. eqb (first_letter text table i) c) k
  pub known : (i : ℕ) → from ≤ i → i < j → order_of table i < n
  pub found : (i : ℕ) → i < k → first_letter text table i ≡ c → (p : ℕ) × (from ≤ p) × (p < j) × (order_of table p ≡ i)

-- relation word k is next, and begins with c
pub record NextOfLetter (text table : List ℕ) (n c from j k : ℕ) : Type 0 where
  pub gathering : Gathering text table n c from j k
  pub known : k < n
  pub begins : first_letter text table k ≡ c

-- words of letter c were gathered up to relation word k, with j places taken
pub record Gathered (text table : List ℕ) (n c from k : ℕ) (table' : List ℕ) (j : ℕ) : Type 0 where
  pub kept : SamePositions table table'
  pub gathering : Gathering text table' n c from j k
