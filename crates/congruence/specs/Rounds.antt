-- The rounds of two words, and the answer under an allowance (document 01, "Exchanges and rounds").
use Rattle.std.specs.Prelude.{ℕ, zero, suc, ◌+◌, Bool, true, false, List, [], ◌≡◌}
use Rattle.words.specs.Words.{Word}
use Rattle.congruence.specs.Rows.{Next, round}
use Rattle.congruence.specs.Rows.Next.{end, go}

-- from u, v and p the rows make n rounds and then end with b: the number of 'go on's and drops, with no allowance to stop them
pub data Rounds (B : List Word) (family : ℕ → ℕ) : Word → Word → Word → ℕ → Bool → Type 0 where
  ended : {u v p : Word} {b : Bool} → round B family u v p ≡ end b → Rounds B family u v p 0 b
  goes : {u v p u' v' p' : Word} {n : ℕ} {b : Bool} → round B family u v p ≡ go u' v' p' → Rounds B family u' v' p' n b → Rounds B family u v p (suc n) b

-- a comparison's answer, with the count of rounds
pub data CompareAnswer : Type 0 where
  same : ℕ → CompareAnswer
  different : ℕ → CompareAnswer
  spent : ℕ → CompareAnswer

-- an end after n rounds
abbrev pub ending : Bool → ℕ → CompareAnswer
ending true n = same n
ending false n = different n

-- an end gives the answer; where another round is due, k goes on
abbrev pub on_next : Next → ℕ → (Word → Word → Word → CompareAnswer) → CompareAnswer
on_next (end b) n k = ending b n
on_next (go u v p) n k = k u v p

-- the answer from u, v and p, where n rounds are done and `left` more are allowed
unfoldable pub answer_from : List Word → (ℕ → ℕ) → ℕ → ℕ → Word → Word → Word → CompareAnswer
answer_from B family zero n u v p = on_next (round B family u v p) n (λ _ _ _. spent n)
answer_from B family (suc left) n u v p = on_next (round B family u v p) n (answer_from B family left (n + 1))

-- the answer for two words under an allowance
abbrev pub compare_under : List Word → (ℕ → ℕ) → ℕ → Word → Word → CompareAnswer
compare_under B family allowance u v = answer_from B family allowance 0 u v []
