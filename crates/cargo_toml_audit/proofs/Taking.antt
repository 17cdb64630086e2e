-- What a report takes of one place after the other.
use Rattle.cargo_toml_audit.proofs.Cited.{Audit, Base, Finding, Gain, Global, List, Oddity, Reading, Takes, Vec, [], ap, append-nil, append_assoc, both, gain_of, gain_of_all, oddities_of, only_found, refl, sym, ◌++◌, ◌∙◌, ◌∷◌, ◌≡◌}

abbrev pub nothing : Gain
nothing = only_found []

pub takes_found : (os : List Oddity) (a : Audit) (fs : Vec Finding Global) → oddities_of fs ≡ oddities_of a.findings ++ os
    → Takes (only_found os) a (record a { findings = fs })
takes_found os a fs found = record { root = refl; members = sym (append-nil _); found = found; inherited = sym (append-nil _); asked = sym (append-nil _) }

pub takes_nothing : (a : Audit) → Takes nothing a a
takes_nothing a = takes_found [] a a.findings (sym (append-nil _))

pub takes_both : (g h : Gain) (a b c : Audit) → Takes g a b → Takes h b c → Takes (both g h) a c
takes_both g h a b c one two = record {
  root = two.root ∙ one.root;
  members = two.members ∙ ap (λ t. t ++ h.members) one.members ∙ append_assoc _ g.members h.members;
  found = two.found ∙ ap (λ t. t ++ h.found) one.found ∙ append_assoc _ g.found h.found;
  inherited = two.inherited ∙ ap (λ t. t ++ h.inherited) one.inherited ∙ append_assoc _ g.inherited h.inherited;
  asked = two.asked ∙ ap (λ t. t ++ h.asked) one.asked ∙ append_assoc _ g.asked h.asked;
}

both_assoc : (g h k : Gain) → both (both g h) k ≡ both g (both h k)
both_assoc g h k = λ i. record {
  members = append_assoc g.members h.members k.members i;
  found = append_assoc g.found h.found k.found i;
  inherited = append_assoc g.inherited h.inherited k.inherited i;
  asked = append_assoc g.asked h.asked k.asked i;
}

both_nothing : (g : Gain) → both g nothing ≡ g
both_nothing g = λ i. record {
  members = append-nil g.members i;
  found = append-nil g.found i;
  inherited = append-nil g.inherited i;
  asked = append-nil g.asked i;
}

pub one_more_gain : (base : Base) (rs : List Reading) (r : Reading) → both (gain_of_all base rs) (gain_of base r.place r.content) ≡ gain_of_all base (rs ++ r ∷ [])
one_more_gain base [] r = sym (both_nothing (gain_of base r.place r.content))
one_more_gain base (q ∷ rs) r =
    both_assoc (gain_of base q.place q.content) (gain_of_all base rs) (gain_of base r.place r.content) ∙ ap (both (gain_of base q.place q.content)) (one_more_gain base rs r)
