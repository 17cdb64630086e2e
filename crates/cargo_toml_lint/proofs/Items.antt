-- What is made of an action text, from its parts.
use Rattle.cargo_toml_lint.proofs.Cited.{◌||◌, ◌∙◌, ◌≡◌, action_in, ActionText, ap, Bool, cond, false, is_some, Item, item_in, item_of, Name, On, sym, Text, true}

module _ (text : Text) (t : ActionText) (is : item_in t ≡ item_of text) where
  -- of an action, or of a name
  tested : {X : Type 0} (of : Item → X) (acts : Bool) → (t.is_dep_only || is_some t.dep_feature) ≡ acts
      → of (item_of text) ≡ of (cond acts (On t.target.now (action_in t)) (Name t.target.now))
  tested of acts e =
      ap of (sym is) ∙ ap (λ b. of (cond b (On t.target.now (action_in t)) (Name t.target.now))) e

  module _ {X : Type 0} (of : Item → X) (acts : Bool)
      (told : acts ≡ (t.is_dep_only || is_some t.dep_feature)) where
    pub acting : acts ≡ true → of (item_of text) ≡ of (On t.target.now (action_in t))
    acting e = tested of true (sym told ∙ e)

    pub naming : acts ≡ false → of (item_of text) ≡ of (Name t.target.now)
    naming e = tested of false (sym told ∙ e)
