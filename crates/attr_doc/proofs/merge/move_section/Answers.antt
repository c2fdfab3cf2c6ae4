use Rattle.std.{proofs.{Common.{arith, ap, length, refl, sym}, lemmas.Map.length-set_value}, specs.Str.str_eq_ignore_ascii_case}
use Rattle.vecmap_laws.proofs.AfterPuts.{length_put}
use Rattle.attr_doc.proofs.{ChangeLemmas.{at_ok, section_added, section_joined}, RoomLemmas.{other_values_stay, others_after}}
use Rattle.attr_doc.proofs.merge.move_section.Goals as goal

pub unwrap-requires : goal.unwrap-requires
unwrap-requires c = c.append.ensures.succeeds (c.requires.room_in c.in-Some.existing.now (sym c.in-Some.ensures.value))

pub returns-in-Some-clause-sections : goal.returns-in-Some-clause-sections
returns-in-Some-clause-sections c = section_joined c.args.sections.now c.args.name c.in-Some.existing.now c.append.new.self c.in-Some.ensures.value (c.in-Some.ensures.found.0 refl) c.args.texts.entries (at_ok c.append.result c.unwrap.result c.unwrap.ensures c.append.ensures.insertion).entries

pub returns-in-Some-clause-len : goal.returns-in-Some-clause-len
returns-in-Some-clause-len c =
    let same = length-set_value (str_eq_ignore_ascii_case c.args.name) c.args.sections.now.entries c.append.new.self in
    omega (arith, same)

pub returns-in-Some-clause-others : goal.returns-in-Some-clause-others
returns-in-Some-clause-others c = other_values_stay c.args.sections.now c.args.name c.append.new.self (c.in-Some.ensures.found.0 refl)

pub returns-in-None-clause-sections : goal.returns-in-None-clause-sections
returns-in-None-clause-sections c = section_added c.args.sections.now.entries c.insert.new.self.entries c.args.name c.args.texts c.in-None.ensures.value (at_ok c.insert.result c.unwrap-in-None.result c.unwrap-in-None.ensures c.insert.ensures.insertion).entries

pub returns-in-None-clause-others : goal.returns-in-None-clause-others
returns-in-None-clause-others c = others_after c.args.sections.now.entries c.insert.new.self.entries c.args.name c.args.texts (at_ok c.insert.result c.unwrap-in-None.result c.unwrap-in-None.ensures c.insert.ensures.insertion).entries

pub returns-in-None-clause-len : goal.returns-in-None-clause-len
returns-in-None-clause-len c =
    let long = ap length (at_ok c.insert.result c.unwrap-in-None.result c.unwrap-in-None.ensures c.insert.ensures.insertion).entries in
    let put = length_put str_eq_ignore_ascii_case c.args.sections.now.entries c.args.name c.args.texts in
    rw (long, put) (grind arith)
