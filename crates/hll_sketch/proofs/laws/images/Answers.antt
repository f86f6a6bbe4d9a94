-- SPDX-License-Identifier: Apache-2.0
use Rattle.hll_sketch.proofs.Images.{one_image}
use Rattle.hll_sketch.proofs.Faults.{fault_excludes_header, fault_excludes_image}
use Rattle.hll_sketch.proofs.FirstFaults.{first_fault_stands, faultless_is_image}
use Rattle.hll_sketch.proofs.FaultKinds.{faults_are_of_data}
use Rattle.hll_sketch.proofs.LegalImages.{image_is_legal}
use Rattle.hll_sketch.proofs.laws.images.Goals as goal

pub returns-clause-one_image : goal.returns-clause-one_image
returns-clause-one_image c = one_image

pub returns-clause-fault_excludes_header : goal.returns-clause-fault_excludes_header
returns-clause-fault_excludes_header c = fault_excludes_header

pub returns-clause-fault_excludes_image : goal.returns-clause-fault_excludes_image
returns-clause-fault_excludes_image c = fault_excludes_image

pub returns-clause-first_fault_stands : goal.returns-clause-first_fault_stands
returns-clause-first_fault_stands c = first_fault_stands

pub returns-clause-faultless_is_image : goal.returns-clause-faultless_is_image
returns-clause-faultless_is_image c = faultless_is_image

pub returns-clause-faults_are_of_data : goal.returns-clause-faults_are_of_data
returns-clause-faults_are_of_data c = faults_are_of_data

pub returns-clause-image_is_legal : goal.returns-clause-image_is_legal
returns-clause-image_is_legal c = image_is_legal
