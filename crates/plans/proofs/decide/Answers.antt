use Rattle.plans.proofs.Decisions.{decisions}
use Rattle.plans.proofs.decide.Goals as goal

pub drop_letters-requires : goal.drop_letters-requires
drop_letters-requires c = search decisions

pub replace_words-requires : goal.replace_words-requires
replace_words-requires c = search decisions

pub cut_prefixes-requires : goal.cut_prefixes-requires
cut_prefixes-requires c = search decisions

pub put_on_v-requires : goal.put_on_v-requires
put_on_v-requires c = search decisions

pub put_on_u-requires : goal.put_on_u-requires
put_on_u-requires c = search decisions

pub cut_ends-requires : goal.cut_ends-requires
cut_ends-requires c = search decisions

pub returns-in-1 : goal.returns-in-1
returns-in-1 c = search decisions

pub returns-in-2 : goal.returns-in-2
returns-in-2 c = search decisions

pub returns-in-3 : goal.returns-in-3
returns-in-3 c = search decisions

pub returns-in-4 : goal.returns-in-4
returns-in-4 c = search decisions

pub returns-in-5 : goal.returns-in-5
returns-in-5 c = search decisions

pub returns-in-6 : goal.returns-in-6
returns-in-6 c = search decisions

pub returns-in-7 : goal.returns-in-7
returns-in-7 c = search decisions

pub returns-in_default : goal.returns-in_default
returns-in_default c = search decisions
