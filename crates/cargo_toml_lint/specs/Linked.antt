-- Features by the places of their names.
use Rattle.std.specs.Prelude.{◌≡◌, ◌≢◌, ◌↔◌, ◌<◌, Bool, List, IsTrue, bytes_eq, codes, length, map}
use Rattle.std.specs.{Borrow.Bor, Prelude.not, Prelude.ℕ}
use Rattle.cargo_toml.specs.{Ascending.Ascend, Action.Text, Graph.Table, Reach.Among}
use Rattle.cargo_toml_features.specs.Places.{nth_text}
use Rattle.cargo_toml_lint.specs.Reached.{IsFinished, IsFlagged, Leads, Path}
use Rattle.cargo_toml_lint.specs.{Findings.is_hidden, declared.linking.Links.Links}
use Rattle.cargo_toml_lint.specs.declared.walks.Walks.{Walks}

abbrev pub names_of : Links → List Text
names_of l = map (λ t. t.now) l.names.items

-- the name in this place
abbrev pub name_at : Links → ℕ → Text
name_at l a = nth_text (names_of l) a

-- the name in place b passes
abbrev pub Passes : List (Bor Text) → (Text → Bool) → ℕ → Type 0
Passes names test b =
    (b < length names) × IsTrue (test (nth_text (map (λ t. t.now) names) b))

-- each name has a place, and what each place leads to is found
pub record AreFound (l : Links) : Type 0 where
  pub finished : IsFinished l.reach
  pub count : length l.reach.next.items ≡ length l.names.items
  pub in_order : Ascend (names_of l)

-- they are the features of the table, and lead where its features turn
pub record AreLinks (t : Table) (l : Links) : Type 0 where
  pub found : AreFound l
  pub known : (f : Text) → IsTrue (t.has f) ↔ Among (names_of l) f
  pub leads : (a b : ℕ) → a < length l.names.items → b < length l.names.items
      → Leads l.reach.next.items a b ↔ IsTrue (t.names (name_at l a) (name_at l b))

-- the flags of the places to which those of the first n go that pass
pub record AreLed (l : Links) (n : ℕ) (test : Text → Bool) (Goes : ℕ → ℕ → Type 0)
    (flags : List Bool) : Type 0 where
  pub len : length flags ≡ length l.names.items
  pub are : (b : ℕ) → IsFlagged flags b
      ↔ ((a : ℕ) × (a < n) × IsTrue (test (name_at l a)) × Goes a b)

-- to another by one edge
abbrev pub LeadsOn : Links → ℕ → ℕ → Type 0
LeadsOn l a b = (b ≢ a) × Leads l.reach.next.items a b

-- the flags of all three, as far as the first n go
pub record AreWalked (l : Links) (n : ℕ) (far near others : List Bool) : Type 0 where
  pub reached : AreLed l n (λ f. not (is_hidden f)) (Path l.reach.next.items) far
  pub by_default : AreLed l n (λ f. bytes_eq f (codes "default")) (LeadsOn l) near
  pub by_others : AreLed l n (λ f. not (bytes_eq f (codes "default"))) (LeadsOn l) others

abbrev pub AreWalks : Links → Walks → Type 0
AreWalks l w =
    AreWalked l (length l.names.items) w.reached.items w.by_default.items w.by_others.items
