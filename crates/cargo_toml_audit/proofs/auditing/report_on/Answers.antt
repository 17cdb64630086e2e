use Rattle.cargo_toml_audit.proofs.Cited.{Agrees, AreListed, AreRead, Audit, Base, Bool, Finding, Gain, Global, IsReport, Known, List, Looks, String, Takes, Text, Vec, Walks, [], ap, append-nil, append_assoc, arith, base_of, contains_text, dependency_meaning, disk_of, found_beside, gain_of_all, held_in, map, map_meaning, oddities_of, only_found, overall_oddities, string_bytes, subst, ◌++◌, ◌∙◌, ◌≡◌}
use Rattle.cargo_toml_audit.proofs.Walked.{disk_agrees}
use Rattle.cargo_toml_audit.proofs.auditing.report_on.Goals as goal

-- four pieces, one behind the other
four : {X : Type 0} (z a b c d p q r s : List X) → z ≡ [] → a ≡ z ++ p → b ≡ a ++ q → c ≡ b ++ r → d ≡ c ++ s → d ≡ p ++ (q ++ (r ++ s))
four z a b c d p q r s none one two three last = grind (arith, append_assoc)

-- a report is begun, lists are read, places walked over, the lists looked at once more, and it is ended
reported : (base : Base) (asked : Text) (looks : Looks) (lists : Vec (String Global) Global × Known) (members : Text → Bool) (begun walked ended : Audit) (listed beside : Vec Finding Global)
    → held_in begun ≡ only_found [] → AreListed base (disk_of looks) lists begun.findings listed
    → Walks base (map string_bytes lists.0.items) members (record begun { findings = listed }) walked
    → oddities_of beside ≡ oddities_of walked.findings
    ++ found_beside base looks (disk_of looks) (record { listed = contains_text lists.1.listed; entered = contains_text lists.1.entered; members = members }) asked
    → Takes (only_found (overall_oddities (map_meaning dependency_meaning base.workspace.dependencies) (held_in (record walked { findings = beside }))))
    (record walked { findings = beside }) ended
    → IsReport base asked ended
reported base asked looks lists members begun walked ended listed beside empty are walk more end =
    let gain = gain_of_all base walk.readings in
    let told = walk.takes.members ∙ ap (λ (x : Gain). x.members ++ gain.members) empty in
    let inherited = walk.takes.inherited ∙ ap (λ (x : Gain). x.inherited ++ gain.inherited) empty in
    let wanted = walk.takes.asked ∙ ap (λ (x : Gain). x.asked ++ gain.asked) empty in
    record {
      looks = looks;
      readings = walk.readings;
      read = subst (λ (ps : List Text). AreRead base ps walk.readings) are.first walk.read;
      members = end.members ∙ append-nil walked.members.items ∙ told;
      found = four (oddities_of begun.findings) (oddities_of listed) (oddities_of walked.findings) (oddities_of beside) (oddities_of ended.findings) _ _ _ _
          (ap (λ (x : Gain). x.found) empty) are.found walk.takes.found
          (more ∙ (λ i. oddities_of walked.findings ++ found_beside base looks (disk_of looks)
          (record { listed = λ t. are.listed t i; entered = λ t. are.entered t i; members = λ t. walk.are t i }) asked))
          (end.found
          ∙ (λ i. oddities_of beside ++ overall_oddities (map_meaning dependency_meaning base.workspace.dependencies)
          (record { members = told i; found = []; inherited = inherited i; asked = wanted i })));
    }

pub returns-clause-report : goal.returns-clause-report
returns-clause-report g c =
    let looks = c.find_beside.new.looking.looks in
    let beside = c.in_ok-find_beside.ensures.found (disk_of looks) (disk_agrees looks) in
    let before = subst (Agrees (disk_of looks)) c.in_ok-known.ensures.looks beside.0 in
    let ended : IsReport (base_of c.args.root) c.args.asked.now c.finish.new.self =
    reported (base_of c.args.root) c.args.asked.now looks c.in_ok-lists.lists _ c.new-audit.result c.add_members.new.audit c.finish.new.self
    c.read_lists.new.findings c.find_beside.new.findings c.new-audit.ensures.empty (c.in_ok-lists.ensures.listed (disk_of looks) before).1
    c.in_ok-known.ensures.walked beside.1 c.in_ok-finish.ensures in
    record { looks = ended.looks; readings = ended.readings; read = ended.read; members = ended.members; found = ended.found }

pub returns-clause-place : goal.returns-clause-place
returns-clause-place g c =
    ap string_bytes (c.in_ok-finish.ensures.root ∙ c.in_ok-known.ensures.walked.takes.root ∙ c.new-audit.ensures.root) ∙ c.in_ok-from_str.ensures.ok
