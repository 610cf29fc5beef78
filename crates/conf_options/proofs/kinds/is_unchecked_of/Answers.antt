use Rattle.std.proofs.Common.{refl, arith}
use Rattle.conf_rules.specs.Keywords.{unchecked}
use Rattle.conf_options.specs.Lengths.{texts_of_length}
use Rattle.conf_options.proofs.KindLemmas.{no-texts}
use Rattle.conf_options.proofs.kinds.is_unchecked_of.Goals as goal

pub returns-in-0 : goal.returns-in-0
unfolding texts_of_length unchecked
returns-in-0 c = rw c.in-0.is refl

pub returns-in-1 : goal.returns-in-1
unfolding texts_of_length unchecked
returns-in-1 c = rw c.in-1.is refl

pub returns-in-2 : goal.returns-in-2
unfolding texts_of_length unchecked
returns-in-2 c = rw c.in-2.is refl

pub returns-in-3 : goal.returns-in-3
unfolding texts_of_length unchecked
returns-in-3 c = rw c.in-3.is refl

pub returns-in-4 : goal.returns-in-4
unfolding texts_of_length unchecked
returns-in-4 c = rw c.in-4.is c.is_any.ensures

pub returns-in-5 : goal.returns-in-5
unfolding texts_of_length unchecked
returns-in-5 c = rw c.in-5.is c.is_any-in-5.ensures

pub returns-in-6 : goal.returns-in-6
unfolding texts_of_length unchecked
returns-in-6 c = rw c.in-6.is c.is_any-in-6.ensures

pub returns-in-7 : goal.returns-in-7
unfolding texts_of_length unchecked
returns-in-7 c = rw c.in-7.is c.is_any-in-7.ensures

pub returns-in-8 : goal.returns-in-8
unfolding texts_of_length unchecked
returns-in-8 c = rw c.in-8.is c.is_any-in-8.ensures

pub returns-in-9 : goal.returns-in-9
unfolding texts_of_length unchecked
returns-in-9 c = rw c.in-9.is c.is_any-in-9.ensures

pub returns-in-10 : goal.returns-in-10
unfolding texts_of_length unchecked
returns-in-10 c = rw c.in-10.is c.is_any-in-10.ensures

pub returns-in-11 : goal.returns-in-11
unfolding texts_of_length unchecked
returns-in-11 c = rw c.in-11.is c.is_any-in-11.ensures

pub returns-in-12 : goal.returns-in-12
unfolding texts_of_length unchecked
returns-in-12 c = rw c.in-12.is c.is_any-in-12.ensures

pub returns-in-13 : goal.returns-in-13
unfolding texts_of_length unchecked
returns-in-13 c = rw c.in-13.is c.is_any-in-13.ensures

pub returns-in-14 : goal.returns-in-14
unfolding texts_of_length unchecked
returns-in-14 c = rw c.in-14.is c.is_any-in-14.ensures

pub returns-in-15 : goal.returns-in-15
unfolding texts_of_length unchecked
returns-in-15 c = rw c.in-15.is c.is_any-in-15.ensures

pub returns-in-16 : goal.returns-in-16
unfolding texts_of_length unchecked
returns-in-16 c = rw c.in-16.is c.is_any-in-16.ensures

pub returns-in-17 : goal.returns-in-17
unfolding texts_of_length unchecked
returns-in-17 c = rw c.in-17.is c.is_any-in-17.ensures

pub returns-in-18 : goal.returns-in-18
unfolding texts_of_length unchecked
returns-in-18 c = rw c.in-18.is c.is_any-in-18.ensures

pub returns-in-19 : goal.returns-in-19
unfolding texts_of_length unchecked
returns-in-19 c = rw c.in-19.is c.is_any-in-19.ensures

pub returns-in-20 : goal.returns-in-20
unfolding texts_of_length unchecked
returns-in-20 c = rw c.in-20.is c.is_any-in-20.ensures

pub returns-in-21 : goal.returns-in-21
unfolding texts_of_length unchecked
returns-in-21 c = rw c.in-21.is c.is_any-in-21.ensures

pub returns-in-22 : goal.returns-in-22
unfolding texts_of_length unchecked
returns-in-22 c = rw c.in-22.is c.is_any-in-22.ensures

pub returns-in-23 : goal.returns-in-23
unfolding texts_of_length unchecked
returns-in-23 c = rw c.in-23.is c.is_any-in-23.ensures

pub returns-in-24 : goal.returns-in-24
unfolding texts_of_length unchecked
returns-in-24 c = rw c.in-24.is c.is_any-in-24.ensures

pub returns-in-25 : goal.returns-in-25
unfolding texts_of_length unchecked
returns-in-25 c = rw c.in-25.is c.is_any-in-25.ensures

pub returns-in-26 : goal.returns-in-26
unfolding texts_of_length unchecked
returns-in-26 c = rw c.in-26.is refl

pub returns-in-27 : goal.returns-in-27
unfolding texts_of_length unchecked
returns-in-27 c = rw c.in-27.is c.is_any-in-27.ensures

pub returns-in-28 : goal.returns-in-28
unfolding texts_of_length unchecked
returns-in-28 c = rw c.in-28.is c.is_any-in-28.ensures

pub returns-in-29 : goal.returns-in-29
unfolding texts_of_length unchecked
returns-in-29 c = rw c.in-29.is refl

pub returns-in-30 : goal.returns-in-30
unfolding texts_of_length unchecked
returns-in-30 c = rw c.in-30.is refl

pub returns-in-31 : goal.returns-in-31
unfolding texts_of_length unchecked
returns-in-31 c = rw c.in-31.is c.is_any-in-31.ensures

pub returns-in-32 : goal.returns-in-32
unfolding texts_of_length unchecked
returns-in-32 c = rw c.in-32.is c.is_any-in-32.ensures

pub returns-in_default : goal.returns-in_default
returns-in_default c = no-texts c.args.word.now c.args.length (omega arith)
