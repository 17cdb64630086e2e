-- A closure that puts values of an iterator in the place of a map's, one after the other.
use Rattle.cargo_toml_package.proofs.Cited.{Bool, Global, List, RetainsPairs, String, [], ap, cond, map, string_bytes, sym, true, ℕ, ◌∙◌, ◌∷◌, ◌≡◌}

-- what the closure does at a value, where `rest` are those that it still holds; and what a list becomes by that
pub record Puts {F X M R : Type 0} (meaning : X → M) (rest : F → List R) (next : M → List R → M) (left : M → List R → List R)
    (replaced : List (List ℕ × M) → List R → List (List ℕ × M)) (T : F → String Global → X → Bool → X → F → Type 0) : Type 0 where
  pub at : (f : F) (k : String Global) (v : X) (b : Bool) (w : X) (f' : F) → T f k v b w f' →
      (b ≡ true) × (meaning w ≡ next (meaning v) (rest f)) × (rest f' ≡ left (meaning v) (rest f))
  pub none : (rs : List R) → replaced [] rs ≡ []
  pub more : (e : List ℕ × M) (es : List (List ℕ × M)) (rs : List R) → replaced (e ∷ es) rs ≡ (e.0, next e.1 rs) ∷ replaced es (left e.1 rs)

pub replaced-by : {F X M R : Type 0} (meaning : X → M) (rest : F → List R) (next : M → List R → M) (left : M → List R → List R)
    (replaced : List (List ℕ × M) → List R → List (List ℕ × M)) (T : F → String Global → X → Bool → X → F → Type 0) →
    Puts meaning rest next left replaced T → (f : F) (es kept : List (String Global × X)) → RetainsPairs T f es kept →
    map (λ e. (string_bytes e.0, meaning e.1)) kept ≡ replaced (map (λ e. (string_bytes e.0, meaning e.1)) es) (rest f)
replaced-by {X = X} {M = M} meaning rest next left replaced T puts f [] kept h =
    ap (λ (ps : List (String Global × X)). map (λ e. (string_bytes e.0, meaning e.1)) ps) h ∙ sym (puts.none (rest f))
replaced-by {X = X} {M = M} meaning rest next left replaced T puts f (e ∷ es) kept (b, w, f', others, called, more, is) =
    let step = puts.at f e.0 e.1 b w f' called in
    let behind = replaced-by meaning rest next left replaced T puts f' es others more in
    let first : kept ≡ (e.0, w) ∷ others = is ∙ ap (λ (v : Bool). cond v ((e.0, w) ∷ others) others) step.0 in
    let shown : map (λ p. (string_bytes p.0, meaning p.1)) kept ≡ (string_bytes e.0, meaning w) ∷ map (λ p. (string_bytes p.0, meaning p.1)) others =
    ap (λ (ps : List (String Global × X)). map (λ p. (string_bytes p.0, meaning p.1)) ps) first in
    let tail : map (λ p. (string_bytes p.0, meaning p.1)) others ≡ replaced (map (λ p. (string_bytes p.0, meaning p.1)) es) (left (meaning e.1) (rest f)) = rw (← step.2) behind in
    shown ∙ ap (λ (d : M). (string_bytes e.0, d) ∷ map (λ p. (string_bytes p.0, meaning p.1)) others) step.1
    ∙ ap (λ (ds : List (List ℕ × M)). (string_bytes e.0, next (meaning e.1) (rest f)) ∷ ds) tail
    ∙ sym (puts.more (string_bytes e.0, meaning e.1) (map (λ p. (string_bytes p.0, meaning p.1)) es) (rest f))
