-- Refusals 9 and 10 of given words (document 01, "Refusals by number"): word by word, the length before the letters.
use Rattle.std.specs.Prelude.{ℕ, cond, ltb, length, Result, Ok, Err}
use Rattle.words.specs.Words.{Word}
use Rattle.words.specs.Letters.{first_unknown}
use Rattle.refusals.specs.declared.Refusal.{Refusal}
use Rattle.refusals.specs.declared.Refusal.TheVariants.{Long, Stranger}
use Rattle.limits.specs.Limits.{compared_most, round_most, mark_most}

-- 9: the word with this number has over `most` letters; 10: it has a letter that the head does not have
unfoldable pub given_of : ℕ → ℕ → ℕ → Word → Result (Unit {0}) Refusal
given_of number most letters w =
    cond (ltb most (length w)) (Err (Long number))
    (cond (ltb (first_unknown letters w) (length w)) (Err (Stranger number (first_unknown letters w)))
    (Ok tt))

-- where what is given is fine, go on with `next`; its refusal goes to `stop`
abbrev pub on_given : {A : Type 0} → Result (Unit {0}) Refusal → (Refusal → A) → A → A
on_given (Ok _) stop next = next
on_given (Err r) stop next = stop r

-- the word whose least congruent word is asked for
abbrev pub one_of : ℕ → Word → Result (Unit {0}) Refusal
one_of letters u = given_of 0 compared_most letters u

-- the word from which a prefix is removed, and that prefix, which is a front mark
unfoldable pub marked_of : ℕ → Word → Word → Result (Unit {0}) Refusal
marked_of letters u p = on_given (one_of letters u) Err (given_of 2 mark_most letters p)

-- the two words of a comparison
unfoldable pub pair_of : ℕ → Word → Word → Result (Unit {0}) Refusal
pair_of letters u v = on_given (given_of 0 compared_most letters u) Err (given_of 1 compared_most letters v)

-- the two words of a round and its front mark
unfoldable pub triple_of : ℕ → Word → Word → Word → Result (Unit {0}) Refusal
triple_of letters u v p = on_given (given_of 0 round_most letters u) Err (on_given (given_of 1 round_most letters v) Err (given_of 2 mark_most letters p))
