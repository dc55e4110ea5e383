-- What an answer shows of the refusal, and what it stands for.
use Rattle.std.proofs.Common.{◌≡◌, ℕ, refl, Bool, true, false, cond, Option, None, Some, Result, Ok, Err}
use Rattle.refusal.specs.declared.Refusal.{Refusal}
use Rattle.refusal.specs.declared.Refusal.TheVariants.{Size, Symbols, Position, Reversed, Heads, Cells, IndexLength, StoreLength, TalliesLength, OutputLength, Runs, Unjoined, Reach, Swept, Complete, Record, Upright, PageWidth, PageLength}
use Rattle.refusal.specs.Numbers.{number_of, kept_by}
use Rattle.refusal.specs.Checks.{answer_by, said, said_by}

-- an error is the refusal
pub refused : {A : Type 0} (refusal : Option Refusal) (given : A) {error : Refusal} → answer_by refusal given ≡ Err error → refusal ≡ Some error
refused None given e = absurd cc
refused (Some refusal) given e = cc

-- where something is given, nothing refuses, and it is what is to be given
pub accepted : {A : Type 0} (refusal : Option Refusal) (given : A) {found : A} → answer_by refusal given ≡ Ok found → (refusal ≡ None) × (found ≡ given)
accepted None given e = (refl, cc)
accepted (Some refusal) given e = absurd cc

-- an answer stands for its number and values, where a refusal stands for its number alone
pub said_by_lem : {A V : Type 0} (answer_said : Result A Refusal → ℕ × V) (none : V) → ((refusal : Refusal) → answer_said (Err refusal) ≡ (number_of refusal, none))
    → (refusal : Option Refusal) (given : A) (values : V) → answer_said (Ok given) ≡ (0, values) → answer_said (answer_by refusal given) ≡ said_by refusal none values
said_by_lem answer_said none refuses None given values gives = gives
said_by_lem answer_said none refuses (Some refusal) given values gives = refuses refusal

pub said_answer : {A V : Type 0} (none : V) (values : A → V) (refusal : Option Refusal) (given : A)
    → said none values (answer_by refusal given) ≡ said_by refusal none (values given)
said_answer none values refusal given = said_by_lem (said none values) none (λ refusal. refl) refusal given (values given) refl

-- a test that does not refuse is true
pub required : (test : Bool) (refusal : Refusal) {u : Unit {0}} → cond test (Ok tt) (Err refusal) ≡ Ok u → test ≡ true
required true refusal e = refl
required false refusal e = absurd cc

-- and one that does is false
pub not_required : (test : Bool) (refusal : Refusal) {error : Refusal} → ◌≡◌ {A = Result (Unit {0}) Refusal} (cond test (Ok tt) (Err refusal)) (Err error) → (test ≡ false) × (refusal ≡ error)
not_required true refusal e = absurd cc
not_required false refusal e = (refl, cc)

-- no refusal has the number 0
pub kept_by_number : {A : Type 0} (refusal : Refusal) (old new : A) → kept_by (number_of refusal) old new ≡ old
kept_by_number Size old new = refl
kept_by_number Symbols old new = refl
kept_by_number Position old new = refl
kept_by_number Reversed old new = refl
kept_by_number Heads old new = refl
kept_by_number Cells old new = refl
kept_by_number IndexLength old new = refl
kept_by_number StoreLength old new = refl
kept_by_number TalliesLength old new = refl
kept_by_number OutputLength old new = refl
kept_by_number Runs old new = refl
kept_by_number Unjoined old new = refl
kept_by_number Reach old new = refl
kept_by_number Swept old new = refl
kept_by_number Complete old new = refl
kept_by_number Record old new = refl
kept_by_number Upright old new = refl
kept_by_number PageWidth old new = refl
kept_by_number PageLength old new = refl
