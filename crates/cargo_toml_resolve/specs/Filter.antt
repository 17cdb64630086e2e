-- The filter of hidden names.
use Rattle.std.specs.Prelude.{◌≡◌, Bool, true, false, IsTrue, Option, Some, None, codes, nat_eq}
use Rattle.std.specs.{Borrow.Bor, Fn.FnReturnsAt, Fn.Shared, Fn.always_fn, List.starts_with}
use Rattle.std.specs.Option.{ForSome}
use Rattle.cargo_toml_graph.specs.Action.{Text}

-- what is known of code that answers names
abbrev pub Asked : Type 0 → Type 1
Asked F = Shared F (Bor Text × Unit {0}) Bool

-- f may be called on every text, and answers each in one way
pub record IsNameFilter {F : Type 0} (g : Asked F) (f : F) : Type 0 where
  pub callable : always_fn g f
  pub one_answer : (n : Text) (r s : Bool) → FnReturnsAt g f n r → FnReturnsAt g f n s → r ≡ s

-- the filter, where there is one, is such a filter
abbrev pub HasNameFilter : {F : Type 0} → Asked F → Option (Bor F) → Type 0
HasNameFilter g filter = ForSome filter (λ f. IsNameFilter g f.now)

-- the filter answers b of the name; without a filter the answer is false
abbrev pub Answers : {F : Type 0} → Asked F → Option (Bor F) → Text → Bool → Type 0
Answers g None n b = b ≡ false
Answers g (Some f) n b = FnReturnsAt g f.now n b

-- the name begins with `_`
abbrev pub IsHiddenName : Text → Type 0
IsHiddenName n = IsTrue (starts_with nat_eq n (codes "_"))

-- the name begins with `_`, and the filter refuses it
pub record IsRefusedName {F : Type 0} (g : Asked F) (filter : Option (Bor F))
    (n : Text) : Type 0 where
  pub hidden : IsHiddenName n
  pub refused : Answers g filter n false

-- the flag of a name: whether it is refused
abbrev pub IsFlagOf : {F : Type 0} → Asked F → Option (Bor F) → Text → Bool → Type 0
IsFlagOf g filter n true = IsRefusedName g filter n
IsFlagOf g filter n false = IsHiddenName n → Answers g filter n true

-- `keep` is what the filter answers; without a filter it keeps no name
abbrev pub FilterTells : {F : Type 0} → Asked F → Option (Bor F) → (Text → Bool) → Type 0
FilterTells g None keep = (n : Text) → keep n ≡ false
FilterTells g (Some f) keep = (n : Text) (r : Bool) → FnReturnsAt g f.now n r → r ≡ keep n
