-- What an operation asks for, by the word that it begins with.
use Rattle.std.specs.Prelude.{ℕ, List, ◌≡◌, ◌≢◌, codes}
use Rattle.lending.specs.declared.Operation.{Operation}
use Rattle.lending.specs.declared.Operation.TheVariants.{Change, Proposal}
use Rattle.lending.specs.declared.Change.TheVariants as change
use Rattle.lending.specs.declared.Proposal.TheVariants as proposal

-- any word but the four asks for a withdrawal
pub record Asks (word : List ℕ) (operation : Operation) : Type 0 where
  pub addition : word ≡ codes "add" → operation ≡ Change change.Addition
  pub posting : word ≡ codes "post" → operation ≡ Change change.Posting
  pub proposed_addition : word ≡ codes "plan-add" → operation ≡ Proposal proposal.Addition
  pub proposed_withdrawal : word ≡ codes "plan-drop" → operation ≡ Proposal proposal.Withdrawal
  pub withdrawal : word ≢ codes "add" → word ≢ codes "post" → word ≢ codes "plan-add" → word ≢ codes "plan-drop" → operation ≡ Change change.Withdrawal
